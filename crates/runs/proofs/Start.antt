-- The premise of demand 3 is met: tables that start fresh, with units built and then a reset, are sound, where no build makes a sharer of a
-- unit that another record names as its keeper.
use Rattle.std.proofs.Math.Path.{◌≡◌, refl}
use Rattle.std.proofs.Common.{sym, ap, ◌∙◌, subst, arith, length-append, take_at, eqb-true, eq-eqb}
use Rattle.std.specs.Prelude.{Bool, List, [], ◌∷◌, ◌++◌, ℕ, zero, suc, ◌+◌, ◌-◌, ◌*◌, ◌≤◌, ◌<◌, eqb, length, take, drop}
use Rattle.std.proofs.Math.Bool.{true, false}
use Rattle.std.proofs.Math.Seq.{drop-append-add}
use Rattle.std.proofs.lemmas.Bool.{eqb-false}
use Rattle.wire.specs.Bytes.{patch}
use Rattle.wire.proofs.SameLaws.{same_refl}
use Rattle.seal.specs.Seal.{blank_record}
use Rattle.seal.specs.BlankLaws.{record_length}
use Rattle.model.specs.declared.Answer.{Answer}
use Rattle.model.specs.declared.Answer.TheVariants.{Good}
use Rattle.units.specs.declared.UnitState.{UnitState}
use Rattle.units.specs.declared.UnitState.TheVariants.{Unused, Used, Unsound}
use Rattle.units.specs.Unit.{unit_at, keeper_field, keeper_of, key_set_of, keeps_keys, unit_state, unit_state_of}
use Rattle.units.proofs.UnitLaws.{state_unused, unused_field, keeper_own, used_has, same_keeper}
use Rattle.units.specs.Fields.{used_record, built}
use Rattle.slots.specs.Slot.{slot_state_of, all_freed}
use Rattle.slots.proofs.SlotLaws.{record_free}
use Rattle.slots.proofs.TableLaws.{all_freed_length, all_freed_lem}
use Rattle.judge.specs.Judgement.{is_unsound}
use Rattle.calls.specs.Outcome.{leaves, tables}
use Rattle.calls.proofs.OutcomeLaws.{one_table}
use Rattle.calls.proofs.BuildLaws.{keeper_none, keeper_other, build_good, build_own, build_shares, build_sound, build_apart, build_shared}
use Rattle.calls.proofs.BuildLaws.{build_others, build_whole}
use Rattle.calls.specs.Slots.{reset_out}
use Rattle.runs.specs.Run.{SoundUnits, is_damaged, SoundTables}
use Rattle.runs.specs.Fresh.{blanks, fresh, Asking, build_as, LosesNone, Built}

-- ---- the fresh table

blanks_length : (n : ℕ) → length (blanks n) ≡ n * 512
unfolding blanks
blanks_length zero = refl
blanks_length (suc n) = let r = record_length in length-append blank_record (blanks n) ∙ omega (arith, blanks_length n)

blanks_at : (n u : ℕ) → u < n → unit_at u (blanks n) ≡ blank_record
unfolding blanks
blanks_at zero u h = absurd (omega arith)
blanks_at (suc n) zero h = take_at blank_record (blanks n) 512 record_length
blanks_at (suc n) (suc u) h =
    let e : suc u * 512 ≡ length blank_record + u * 512 = omega (arith, record_length) in
    ap (λ (i : ℕ). take 512 (drop i (blank_record ++ blanks n))) e
    ∙ ap (take 512) (drop-append-add blank_record (blanks n) (u * 512)) ∙ blanks_at n u (omega arith)

fresh_sound : SoundUnits fresh
unfolding unit_state
fresh_sound u h =
    rw (ap (unit_state_of u) (blanks_at 8 u h) ∙ sym (state_unused u blank_record record_length (same_refl blank_record)))

-- ---- builds

-- the laws of one build, of what it is asked for
module _ (us : List ℕ) (b : Asking) (next : List ℕ) (good : leaves (Good 0) next ≡ build_as us b) where
  length_built : length next ≡ 4096
  length_built =
      build_whole us b.unit b.method b.tag b.identifier b.auth b.generation b.keeper next good
      b.tag_fits b.identifier_16 b.auth_20 b.generation_20

  used_built : unit_state next b.unit ≡ Used
  used_built =
      build_sound us b.unit b.method b.tag b.identifier b.auth b.generation b.keeper next good
      b.tag_fits b.identifier_16 b.auth_20 b.generation_20

  own_built : b.keeper ≡ 0 → keeper_of next b.unit ≡ b.unit
  own_built =
      build_own us b.unit b.method b.tag b.identifier b.auth b.generation b.keeper next good
      b.tag_fits b.identifier_16 b.auth_20 b.generation_20

  shares_built : (b.keeper ≡ 0 → ⊥) → (keeper_of next b.unit ≡ b.keeper - 1) × (key_set_of next b.unit ≡ unit_at (b.keeper - 1) us)
  shares_built =
      build_shares us b.unit b.method b.tag b.identifier b.auth b.generation b.keeper next good
      b.tag_fits b.identifier_16 b.auth_20 b.generation_20

  others_built : (v : ℕ) → (b.unit ≡ v → ⊥) → unit_at v next ≡ unit_at v us
  others_built =
      build_others us b.unit b.method b.tag b.identifier b.auth b.generation b.keeper next good
      b.tag_fits b.identifier_16 b.auth_20 b.generation_20

  apart_built : (v : ℕ) → (b.unit ≡ v → ⊥) → (keeper_of us v ≡ b.unit → ⊥) → unit_state next v ≡ unit_state us v
  apart_built =
      build_apart us b.unit b.method b.tag b.identifier b.auth b.generation b.keeper next good
      b.tag_fits b.identifier_16 b.auth_20 b.generation_20

  shared_built : (v : ℕ) → (b.unit ≡ v → ⊥) → b.keeper ≡ 0 → keeper_of us v ≡ b.unit → unit_state_of v (unit_at v us) ≡ Used
      → unit_state next v ≡ Used
  shared_built v ne own near used =
      (build_shared us b.unit b.method b.tag b.identifier b.auth b.generation b.keeper next good
      b.tag_fits b.identifier_16 b.auth_20 b.generation_20 v ne own near used).0

  -- a unit that names another as its keeper and is not unsound is used by its own bytes
  named_used : (u : ℕ) → is_unsound (unit_state us u) ≡ false → (b.unit ≡ u → ⊥) → keeper_of us u ≡ b.unit
      → (s : UnitState) → unit_state_of u (unit_at u us) ≡ s → s ≡ Used
  unfolding unit_state
  named_used u sound ne near Unused e = absurd (ne (sym near ∙ keeper_own us u (unused_field u (unit_at u us) e)))
  named_used u sound ne near Used e = refl
  named_used u sound ne near Unsound e =
      let z : true ≡ false = rw e at sound in
      let o : ◌≡◌ {A = ℕ} 0 1 = cc in
      absurd (omega arith)

  -- the unit that was built is sound; so is one that it keeps the keys of, and any other is as it was
  sound_built : LosesNone us b → SoundUnits us → SoundUnits next
  sound_built loses sound u h = by_unit (eqb b.unit u) refl
    where
      others : (b.unit ≡ u → ⊥) → (c d : Bool) → eqb (keeper_of us u) b.unit ≡ c → eqb b.keeper 0 ≡ d
          → is_unsound (unit_state next u) ≡ false
      others ne false d e f = ap is_unsound (apart_built u ne (eqb-false (keeper_of us u) b.unit e)) ∙ sound u h
      others ne true true e f =
          let near = eqb-true (keeper_of us u) b.unit e in
          let used = named_used u (sound u h) ne near (unit_state_of u (unit_at u us)) refl in
          ap is_unsound (shared_built u ne (eqb-true b.keeper 0 f) near used)
      others ne true false e f = absurd (loses (eqb-false b.keeper 0 f) u h ne (eqb-true (keeper_of us u) b.unit e))

      by_unit : (c : Bool) → eqb b.unit u ≡ c → is_unsound (unit_state next u) ≡ false
      by_unit true e = rw (← eqb-true b.unit u e) (ap is_unsound used_built)
      by_unit false e = others (eqb-false b.unit u e) (eqb (keeper_of us u) b.unit) (eqb b.keeper 0) refl refl

-- from any sound unit table
pub builds : (bs : List Asking) (us ns : List ℕ) → length us ≡ 4096 → SoundUnits us → Built us bs ns → (length ns ≡ 4096) × SoundUnits ns
builds [] us ns full sound e = (ap length (sym e) ∙ full, subst SoundUnits e sound)
builds (b ∷ bs) us ns full sound (next, good, loses, rest) =
    builds bs next ns (length_built us b next good) (sound_built us b next good loses sound) rest

-- ---- and a reset

reset_is : (slots : List ℕ) (a : Answer) (ss : List ℕ) → length slots ≡ 8192 → leaves a ss ≡ reset_out slots → ss ≡ all_freed slots
unfolding reset_out
reset_is slots a ss full e = (one_table a (Good 0) ss (all_freed slots) _ (rw (eq-eqb (length slots) 8192 full) at e) refl).1

pub start_sound : (bs : List Asking) (us slots ss : List ℕ) (a : Answer) → Built fresh bs us → length slots ≡ 8192
    → leaves a ss ≡ reset_out slots → SoundTables (tables us ss)
start_sound bs us slots ss a built full e =
    let u = builds bs fresh us (blanks_length 8) fresh_sound built in
    let q = reset_is slots a ss full e in
    subst (λ (x : List ℕ). SoundTables (tables us x)) (sym q)
    (record {
      units_length = u.0;
      slots_length = all_freed_length slots full;
      units_sound = u.1;
      slots_sound = λ i h. ap (λ (rec : List ℕ). is_damaged (slot_state_of rec)) (all_freed_lem slots full i h) ∙ ap is_damaged record_free;
    })

-- ---- and it is met with units that share keys: from the fresh table, unit 0 built with keys of its own, then unit 1 as its sharer

fresh_keeper : (v : ℕ) → v < 8 → keeper_of fresh v ≡ v
fresh_keeper v h =
    keeper_own fresh v
    (unused_field v (unit_at v fresh) (ap (unit_state_of v) (blanks_at 8 v h) ∙ sym (state_unused v blank_record record_length (same_refl blank_record))))

module _ (a b : Asking) (ua : a.unit ≡ 0) (ma : a.method ≤ 1) (ka : a.keeper ≡ 0) (ub : b.unit ≡ 1) (mb : b.method ≤ 1) (kb : b.keeper ≡ 1)
  where
    one : List ℕ
    one = patch fresh (a.unit * 512) (used_record (built a.unit a.method a.tag a.identifier a.auth a.generation a.keeper))

    one_good : leaves (Good 0) one ≡ build_as fresh a
    unfolding one
    one_good =
        build_good fresh a.unit a.method a.tag a.identifier a.auth a.generation a.keeper
        (blanks_length 8) (omega arith) ma true (keeper_none fresh a.unit a.keeper ka) refl one refl

    -- unit 0 keeps keys then
    one_keeper : keeper_of one 0 ≡ 0
    one_keeper = subst (λ (x : ℕ). keeper_of one x ≡ x) ua (own_built fresh a one one_good ka)

    one_keeps : keeps_keys one 0 ≡ true
    one_keeps =
        let used : unit_state one 0 ≡ Used = subst (λ (x : ℕ). unit_state one x ≡ Used) ua (used_built fresh a one one_good) in
        ap (keeps_keys one) (sym one_keeper) ∙ (used_has one 0 used).1

    one_others : (v : ℕ) → v < 8 → (0 ≡ v → ⊥) → keeper_of one v ≡ v
    one_others v h ne =
        same_keeper one fresh v (ap keeper_field (others_built fresh a one one_good v (λ q. ne (sym ua ∙ q)))) ∙ fresh_keeper v h

    two : List ℕ
    two = patch one (b.unit * 512) (used_record (built b.unit b.method b.tag b.identifier b.auth b.generation b.keeper))

    two_good : leaves (Good 0) two ≡ build_as one b
    unfolding two
    two_good =
        build_good one b.unit b.method b.tag b.identifier b.auth b.generation b.keeper
        (length_built fresh a one one_good) (omega arith) mb true
        (keeper_other one b.unit b.keeper (λ z. omega arith) (omega arith) (λ z. omega arith) true
        (sym (ap (λ (x : ℕ). keeps_keys one (x - 1)) kb ∙ one_keeps)))
        refl two refl

    -- nobody names unit 1 yet
    loses_none : LosesNone one b
    loses_none n v h ne near = by_unit (eqb 0 v) refl
      where
        by_unit : (c : Bool) → eqb 0 v ≡ c → ⊥
        by_unit true e =
            let z = eqb-true 0 v e in
            let q : keeper_of one v ≡ 0 = ap (keeper_of one) (sym z) ∙ one_keeper in
            omega (arith, q, near, ub)
        by_unit false e = ne (sym near ∙ one_others v h (eqb-false 0 v e))

    pub two_lines : (us : List ℕ) × Built fresh (a ∷ b ∷ []) us × ((keeper_of us 1 ≡ 0) × (unit_state us 1 ≡ Used))
    two_lines = (
      two,
      (one, one_good, (λ n. absurd (n ka)), (two, two_good, loses_none, refl)),
      (
        ap (keeper_of two) (sym ub) ∙ (shares_built one b two two_good (λ z. omega arith)).0 ∙ ap (λ (x : ℕ). x - 1) kb,
        ap (unit_state two) (sym ub) ∙ used_built one b two two_good,
      ),
    )
