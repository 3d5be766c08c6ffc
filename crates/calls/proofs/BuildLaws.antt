-- Laws of build: case by case; of a build that was answered A0, that the record stands at its place as it was asked for, sound and used,
-- and every other record keeps its bytes; and what becomes of the sharers of a unit that is built anew.
use Rattle.std.specs.Prelude.{◌≡◌, Bool, true, not, List, ℕ, zero, suc, ◌+◌, ◌-◌, ◌*◌, ◌^◌, ◌≤◌, ◌<◌, eqb, leb}
use Rattle.std.proofs.Math.Path.{refl, ap}
use Rattle.std.proofs.Common.{sym, ◌∙◌, arith}
use Rattle.std.proofs.Math.Bool.{false}
use Rattle.std.proofs.Math.ListN.{length}
use borrow.Author.Tests.{eqb-true, eqb-false, leb-true, eq-eqb, ne_eqb, le-leb, lt-leb, not-true}
use Rattle.choice.specs.Choice.{both, pick}
use Rattle.choice.specs.ChoiceLaws.{both_true}
use Rattle.wire.specs.Bytes.{patch}
use Rattle.wire.proofs.PatchLaws.{record_here, record_other, record_length}
use Rattle.model.specs.Answers.{is_a}
use Rattle.model.proofs.AnswerLaws.{told_apart}
use Rattle.model.specs.declared.Answer.{Answer}
use Rattle.model.specs.declared.Answer.TheVariants.{Good, H1, H5}
use Rattle.units.specs.declared.UnitState.TheVariants.{Used, Unsound}
use Rattle.units.specs.Unit.{unit_at, keeper_field, unit_state_of, keeper_of, key_set_of, keeps_keys, unit_state}
use Rattle.units.proofs.UnitLaws.{keeper_own, keeper_named, keeps_of, used_of_keeper, lost_keeper, same_keeper, same_keeps}
use Rattle.units.specs.Fields.{Fields, fields_of, used_record, built}
use Rattle.units.proofs.RoundLaws.{Fit, built_fit, used_length, used_fields, built_used}
use Rattle.calls.specs.Outcome.{leaves}
use Rattle.calls.proofs.OutcomeLaws.{one_table}
use Rattle.calls.specs.Build.{right_keeper, build_out}

-- ---- the keeper field, test by test

positive : (k : ℕ) → (k ≡ 0 → ⊥) → 0 < k
positive zero n = absurd (n refl)
positive (suc k) n = omega arith

module _ (units : List ℕ) (u k : ℕ) where
  pub keeper_none : k ≡ 0 → true ≡ right_keeper units u k
  unfolding right_keeper
  keeper_none e = rw e

  pub keeper_high : 8 < k → false ≡ right_keeper units u k
  unfolding right_keeper
  keeper_high h = rw (ne_eqb k 0 (λ z. omega arith), lt-leb k 8 h)

  pub keeper_itself : (k ≡ 0 → ⊥) → k ≤ 8 → k - 1 ≡ u → false ≡ right_keeper units u k
  unfolding right_keeper
  keeper_itself n h e = rw (ne_eqb k 0 n, le-leb k 8 h, eq-eqb k (u + 1) (let p = positive k n in omega arith))

  pub keeper_other : (k ≡ 0 → ⊥) → k ≤ 8 → (k - 1 ≡ u → ⊥) → (b : Bool) → b ≡ keeps_keys units (k - 1) → b ≡ right_keeper units u k
  unfolding right_keeper
  keeper_other n h o b e = rw (ne_eqb k 0 n, le-leb k 8 h, ne_eqb k (u + 1) (λ q. o (omega arith))) e

  -- what a keeper field may be
  pub record Shares : Type 0 where
    pub small : k ≤ 8
    pub another : k - 1 ≡ u → ⊥
    pub keeps : keeps_keys units (k - 1) ≡ true

  pub right_shares : right_keeper units u k ≡ true → (k ≡ 0 → ⊥) → Shares
  unfolding right_keeper
  right_shares e n =
      let p = both_true (leb k 8) (both (not (eqb k (u + 1))) (keeps_keys units (k - 1))) (rw (ne_eqb k 0 n) at e) in
      let q = both_true (not (eqb k (u + 1))) (keeps_keys units (k - 1)) p.1 in
      record {
        small = leb-true k 8 p.0;
        another = λ z. eqb-false k (u + 1) (not-true (eqb k (u + 1)) q.0) (let h = positive k n in omega arith);
        keeps = q.1;
      }

  pub right_small : right_keeper units u k ≡ true → k ≤ 8
  right_small e = by_field (eqb k 0) refl
    where
      by_field : (b : Bool) → eqb k 0 ≡ b → k ≤ 8
      by_field true z = let q = eqb-true k 0 z in omega arith
      by_field false z = (right_shares e (eqb-false k 0 z)).small

-- ---- the call, test by test

module _ (units : List ℕ) (u m t : ℕ) (id auth gen : List ℕ) (k : ℕ) where
  pub build_length : (length units ≡ 4096 → ⊥) → leaves H1 units ≡ build_out units u m t id auth gen k
  unfolding build_out
  build_length n = rw (ne_eqb (length units) 4096 n)

  pub build_unit : length units ≡ 4096 → 7 < u → leaves H5 units ≡ build_out units u m t id auth gen k
  unfolding build_out
  build_unit e h = rw (eq-eqb (length units) 4096 e, lt-leb u 7 h)

  -- the tests in one
  pub high_unbuilt : 7 < u → false ≡ both (leb u 7) (both (leb m 1) (right_keeper units u k))
  high_unbuilt h = rw (lt-leb u 7 h)

  pub build_barred : length units ≡ 4096 → false ≡ both (leb u 7) (both (leb m 1) (right_keeper units u k))
      → leaves H5 units ≡ build_out units u m t id auth gen k
  unfolding build_out
  build_barred e f = rw (eq-eqb (length units) 4096 e, ← f)

  pub build_done : length units ≡ 4096 → true ≡ both (leb u 7) (both (leb m 1) (right_keeper units u k))
      → (x : List ℕ) → x ≡ patch units (u * 512) (used_record (built u m t id auth gen k))
      → leaves (Good 0) x ≡ build_out units u m t id auth gen k
  unfolding build_out
  build_done e f x q = rw (eq-eqb (length units) 4096 e, ← f, q)

  pub build_method : length units ≡ 4096 → u ≤ 7 → 1 < m → leaves H5 units ≡ build_out units u m t id auth gen k
  unfolding build_out
  build_method e h l = rw (eq-eqb (length units) 4096 e, le-leb u 7 h, lt-leb m 1 l)

  module _ (e : length units ≡ 4096) (h : u ≤ 7) (l : m ≤ 1) (b : Bool) (right : b ≡ right_keeper units u k) where
    pub build_good : b ≡ true → (x : List ℕ) → x ≡ patch units (u * 512) (used_record (built u m t id auth gen k))
        → leaves (Good 0) x ≡ build_out units u m t id auth gen k
    unfolding build_out
    build_good f x q = rw (eq-eqb (length units) 4096 e, le-leb u 7 h, le-leb m 1 l, ← right, f, q)

    pub build_unkept : b ≡ false → leaves H5 units ≡ build_out units u m t id auth gen k
    unfolding build_out
    build_unkept f = rw (eq-eqb (length units) 4096 e, le-leb u 7 h, le-leb m 1 l, ← right, f)

  -- the keys asked for have no part in building a sharer
  pub build_ignores : (k ≡ 0 → ⊥) → (a g : List ℕ) → build_out units u m t id auth gen k ≡ build_out units u m t id a g k
  unfolding build_out
  build_ignores n a g = rw (ne_eqb k 0 n)

  -- ---- a build that was answered A0

  record AskedFor (x : List ℕ) : Type 0 where
    pub full : length units ≡ 4096
    pub small : u ≤ 7
    pub known : m ≤ 1
    pub right : right_keeper units u k ≡ true
    pub table : x ≡ patch units (u * 512) (used_record (built u m t id auth gen k))

  answered : (x : List ℕ) → leaves (Good 0) x ≡ build_out units u m t id auth gen k → AskedFor x
  unfolding build_out
  answered x e = by_length (eqb (length units) 4096) (both (leb u 7) (both (leb m 1) (right_keeper units u k))) refl refl e
    where
      other : (b : Answer) → leaves (Good 0) x ≡ leaves b units → is_a 0 b ≡ false → ⊥
      other b q f = told_apart (is_a 0) (Good 0) b (one_table (Good 0) b x units (leaves b units) q refl).0 refl f

      by_length : (a b : Bool) → eqb (length units) 4096 ≡ a → both (leb u 7) (both (leb m 1) (right_keeper units u k)) ≡ b
          → (let made = leaves (Good 0) (patch units (u * 512) (used_record (built u m t id auth gen k))) in
          leaves (Good 0) x ≡ pick a (pick b made (leaves H5 units)) (leaves H1 units))
          → AskedFor x
      by_length false b ea eb q = absurd (other H1 q refl)
      by_length true false ea eb q = absurd (other H5 q refl)
      by_length true true ea eb q =
          let p = both_true (leb u 7) (both (leb m 1) (right_keeper units u k)) eb in
          let r = both_true (leb m 1) (right_keeper units u k) p.1 in
          record {
            full = eqb-true (length units) 4096 ea;
            small = leb-true u 7 p.0;
            known = leb-true m 1 r.0;
            right = r.1;
            table = (one_table (Good 0) (Good 0) x _ _ q refl).1;
          }

  -- a tag of four bytes, an identifier of 16 bytes and keys of 20: what the call's types say
  module _ (x : List ℕ) (good : leaves (Good 0) x ≡ build_out units u m t id auth gen k) (ht : t < 2 ^ 32) (hi : length id ≡ 16)
      (ha : length auth ≡ 20)
      (hg : length gen ≡ 20) where
    asked_for : AskedFor x
    asked_for = answered x good

    fields : Fields
    fields = built u m t id auth gen k

    fit : Fit fields
    unfolding fields
    fit =
        let hu = asked_for.small in
        let hm = asked_for.known in
        let hk = right_small units u k asked_for.right in
        built_fit u m t id auth gen k hi ha hg (omega arith) (omega arith) ht (omega arith)

    fits : u * 512 + 512 ≤ length units
    fits =
        let hu = asked_for.small in
        let hf = asked_for.full in
        omega arith

    pub build_record : unit_at u x ≡ used_record (built u m t id auth gen k)
    unfolding fields
    build_record = ap (unit_at u) asked_for.table ∙ record_here units u (used_record fields) (used_length fields fit) fits

    -- it holds each field as asked; a sharer's keys are zeros (`built`)
    pub build_fields : fields_of (unit_at u x) ≡ built u m t id auth gen k
    unfolding fields
    build_fields = ap fields_of build_record ∙ used_fields fields fit

    pub build_others : (v : ℕ) → (u ≡ v → ⊥) → unit_at v x ≡ unit_at v units
    unfolding fields
    build_others v ne = ap (unit_at v) asked_for.table ∙ record_other units u (used_record fields) (used_length fields fit) fits v ne

    pub build_whole : length x ≡ 4096
    unfolding fields
    build_whole = ap length asked_for.table ∙ record_length units u (used_record fields) (used_length fields fit) fits ∙ asked_for.full

    -- used by its own bytes, with the field asked for
    own_state : unit_state_of u (unit_at u x) ≡ Used
    own_state =
        let hu = asked_for.small in
        ap (unit_state_of u) build_record
        ∙ built_used u m t id auth gen k hi ha hg (omega arith) asked_for.known ht (right_small units u k asked_for.right)

    field_here : keeper_field (unit_at u x) ≡ k
    field_here = ap (λ (f : Fields). f.keeper) build_fields

    -- a unit with keys of its own keeps keys, a sharer does not
    keeps_here : k ≡ 0 → keeps_keys x u ≡ true
    keeps_here e = keeps_of x u own_state (field_here ∙ e)

    shares_here : (k ≡ 0 → ⊥) → keeps_keys x u ≡ false
    unfolding keeps_keys
    shares_here n = rw (own_state, ne_eqb (keeper_field (unit_at u x)) 0 (λ z. n (sym field_here ∙ z)))

    -- a unit that is built with keys of its own keeps them; a sharer's are its keeper's, as they stood
    pub build_own : k ≡ 0 → keeper_of x u ≡ u
    build_own e = keeper_own x u (field_here ∙ e)

    named : (k ≡ 0 → ⊥) → keeper_of x u ≡ k - 1
    named n = keeper_named x u (λ z. n (sym field_here ∙ z)) ∙ ap (λ (f : ℕ). f - 1) field_here

    pub build_shares : (k ≡ 0 → ⊥) → (keeper_of x u ≡ k - 1) × (key_set_of x u ≡ unit_at (k - 1) units)
    unfolding key_set_of
    build_shares n =
        let s = right_shares units u k asked_for.right n in
        (named n, ap (λ (p : ℕ). unit_at p x) (named n) ∙ build_others (k - 1) (λ q. s.another (sym q)))

    -- sound and used in the new table, sharer and keeper alike
    pub build_sound : unit_state x u ≡ Used
    build_sound = by_field (eqb k 0) refl
      where
        by_field : (b : Bool) → eqb k 0 ≡ b → unit_state x u ≡ Used
        by_field true e =
            let z = eqb-true k 0 e in
            used_of_keeper x u own_state (ap (keeps_keys x) (build_own z) ∙ keeps_here z)
        by_field false e =
            let n = eqb-false k 0 e in
            let s = right_shares units u k asked_for.right n in
            let kept = same_keeps x units (k - 1) (build_others (k - 1) (λ q. s.another (sym q))) ∙ s.keeps in
            used_of_keeper x u own_state (ap (keeps_keys x) (named n) ∙ kept)

    -- ---- another unit: its keeper stays, and its state hangs on what became of its keeper

    module _ (v : ℕ) (ne : u ≡ v → ⊥) where
      keeper_stays : keeper_of x v ≡ keeper_of units v
      keeper_stays = same_keeper x units v (ap keeper_field (build_others v ne))

      pub build_apart : (keeper_of units v ≡ u → ⊥) → unit_state x v ≡ unit_state units v
      unfolding unit_state
      build_apart far =
          rw (keeper_stays, same_keeps x units (keeper_of units v) (build_others (keeper_of units v) (λ q. far (sym q))), build_others v ne)

      -- a sharer of the unit that was built, with own keys: it is sound, were it so before or not, and shares the new ones
      pub build_shared : k ≡ 0 → keeper_of units v ≡ u → unit_state_of v (unit_at v units) ≡ Used
          → (unit_state x v ≡ Used) × (key_set_of x v ≡ used_record (built u m t id auth gen k))
      unfolding key_set_of
      build_shared e near used = (
        used_of_keeper x v (ap (unit_state_of v) (build_others v ne) ∙ used) (ap (keeps_keys x) (keeper_stays ∙ near) ∙ keeps_here e),
        ap (λ (w : ℕ). unit_at w x) (keeper_stays ∙ near) ∙ build_record,
      )

      -- and of one that was built as a sharer itself: it is unsound
      pub build_loses : (k ≡ 0 → ⊥) → keeper_of units v ≡ u → unit_state_of v (unit_at v units) ≡ Used → unit_state x v ≡ Unsound
      build_loses n near used =
          lost_keeper x v (ap (unit_state_of v) (build_others v ne) ∙ used) (ap (keeps_keys x) (keeper_stays ∙ near) ∙ shares_here n)
