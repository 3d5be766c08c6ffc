-- Laws of unit records: the loop over the keys; the state as the code finds it; what a used record holds; and the table, with who keeps
-- a unit's keys.
use Rattle.std.proofs.Math.Path.{◌≡◌, refl, sym, ap}
use Rattle.std.proofs.Common.{◌∙◌, arith, add-one, length-take, length-drop}
use Rattle.std.specs.Prelude.{Bool, List, ℕ, zero, suc, ◌+◌, ◌-◌, ◌*◌, ◌≤◌, ◌<◌, length, eqb, leb}
use Rattle.std.proofs.Math.Bool.{true, false}
use borrow.Author.Tests.{eqb-true, eqb-false, eq-eqb, ne_eqb, leb-true}
use Rattle.choice.specs.Choice.{both, either, pick}
use Rattle.choice.specs.ChoiceLaws.{both_true, both_right, both_none}
use Rattle.wire.specs.Bytes.{same, number, zeros}
use Rattle.wire.proofs.SameLaws.{same_true, same_refl}
use Rattle.wire.proofs.ZeroLaws.{zeros_within, number_zeros}
use Rattle.seal.specs.Seal.{checked, blank_record}
use Rattle.seal.specs.BlankLaws.{record_checked, record_zeros, blank_sound}
use Rattle.units.specs.declared.UnitState.{UnitState}
use Rattle.units.specs.declared.UnitState.TheVariants.{Unused, Used, Unsound}
use Rattle.units.specs.Unit.{layout, unit_number, method, mask, step, identifier, next_pair_zero, unnamed_zero, is_valid, keys_zero}
use Rattle.units.specs.Unit.{keeper_field, no_keys, keeper_shape, used_shape, unit_state_of}
use Rattle.units.specs.Unit.{unit_at, keeper_of, key_set_of, is_used, keeps_keys, kept_state, unit_state}

pub keys_zero_lem : (l : List ℕ) → keys_zero 0 l ≡ true
unfolding keys_zero
keys_zero_lem l = refl

pub keys_more : (v : ℕ) (l : List ℕ) → keys_zero (v + 1) l ≡ both (keys_zero v l) (either (is_valid v l) (zeros 20 (112 + 20 * v) l))
unfolding keys_zero
keys_more v l = rw add-one refl

-- one key that is neither valid nor zero is enough
pub keys_stop : (n v : ℕ) (l : List ℕ) → v < n → is_valid v l ≡ false → zeros 20 (112 + 20 * v) l ≡ false → keys_zero n l ≡ false
unfolding keys_zero
keys_stop zero v l h e z = absurd (omega arith)
keys_stop (suc n) v l h e z = by_last (eqb v n) refl (λ k. keys_stop n v l k e z)
  where
    by_last : (b : Bool) → eqb v n ≡ b → (v < n → keys_zero n l ≡ false)
        → both (keys_zero n l) (either (is_valid n l) (zeros 20 (112 + 20 * n) l)) ≡ false
    by_last true q below = rw (← eqb-true v n q, e, z) (both_none (keys_zero v l))
    by_last false q below = let d = eqb-false v n q in rw (below (omega arith)) refl

-- ---- the state, as the code finds it: the blank record first, then shape and check

module _ (u : ℕ) (l : List ℕ) (full : length l ≡ 512) where
  pub state_unused : same l blank_record ≡ true → Unused ≡ unit_state_of u l
  unfolding unit_state_of
  state_unused e = rw (same_true l blank_record e, record_checked, record_zeros)

  -- and an unused record is the blank one
  pub unused_blank : unit_state_of u l ≡ Unused → l ≡ blank_record
  unfolding unit_state_of
  unused_blank e = by_parts (checked l) (zeros 492 0 l) (used_shape u l) refl refl e
    where
      by_parts : (k z s : Bool) → checked l ≡ k → zeros 492 0 l ≡ z → pick k (pick z Unused (pick s Used Unsound)) Unsound ≡ Unused
          → l ≡ blank_record
      by_parts true true s ek ez q = blank_sound l full ek ez
      by_parts true false true ek ez q = let o : ◌≡◌ {A = ℕ} 0 1 = cc in absurd (omega arith)
      by_parts true false false ek ez q = let o : ◌≡◌ {A = ℕ} 0 1 = cc in absurd (omega arith)
      by_parts false z s ek ez q = let o : ◌≡◌ {A = ℕ} 0 1 = cc in absurd (omega arith)

  -- a sound record of zeros is the blank one, so what is not has a byte that is not zero
  not_zero : same l blank_record ≡ false → checked l ≡ true → (b : Bool) → zeros 492 0 l ≡ b → zeros 492 0 l ≡ false
  not_zero e k false z = z
  not_zero e k true z =
      let q : true ≡ false = sym (same_refl blank_record) ∙ ap (λ (x : List ℕ). same x blank_record) (sym (blank_sound l full k z)) ∙ e in
      z ∙ q

  shaped : same l blank_record ≡ false → (used_shape u l ≡ true) × (checked l ≡ true) → Used ≡ unit_state_of u l
  unfolding unit_state_of
  shaped e p = rw (p.1, not_zero e p.1 (zeros 492 0 l) refl, p.0)

  pub state_used : same l blank_record ≡ false → both (used_shape u l) (checked l) ≡ true → Used ≡ unit_state_of u l
  state_used e b = shaped e (both_true (used_shape u l) (checked l) b)

  unshaped : same l blank_record ≡ false → (k : Bool) → checked l ≡ k → (s : Bool) → used_shape u l ≡ s → both s k ≡ false
      → Unsound ≡ unit_state_of u l
  unfolding unit_state_of
  unshaped e false ck s es b = rw ck
  unshaped e true ck false es b = rw (ck, not_zero e ck (zeros 492 0 l) refl, es)
  unshaped e true ck true es b = let z : true ≡ false = b in cc

  pub state_unsound : same l blank_record ≡ false → both (used_shape u l) (checked l) ≡ false → Unsound ≡ unit_state_of u l
  state_unsound e b = unshaped e (checked l) refl (used_shape u l) refl b

-- ---- what a used record holds: in numbers, what callers ask for

pub record UsedHas (u : ℕ) (l : List ℕ) : Type 0 where
  pub check : checked l ≡ true
  pub used : layout l ≡ 1
  pub place : unit_number l ≡ u
  pub known : method l ≤ 1
  pub pending : step l ≤ 1
  pub field : keeper_field l ≤ 8
  pub sharer : (keeper_field l ≡ 0 → ⊥) → (mask l ≡ 0) × (step l ≡ 0) × (zeros 400 32 l ≡ true)
  pub unnamed : unnamed_zero l ≡ true

used_parts : (k z s : Bool) → pick k (pick z Unused (pick s Used Unsound)) Unsound ≡ Used → (k ≡ true) × (s ≡ true)
used_parts true true s e = (refl, cc)
used_parts true false true e = (refl, refl)
used_parts true false false e = (refl, cc)
used_parts false z s e = (cc, cc)

-- a field that has its shape is at most 8
field_small : (l : List ℕ) → keeper_shape l ≡ true → keeper_field l ≤ 8
unfolding keeper_shape
field_small l e = by_field (eqb (keeper_field l) 0) refl e
  where
    by_field : (b : Bool) → eqb (keeper_field l) 0 ≡ b → either b (both (leb (keeper_field l) 8) (no_keys l)) ≡ true → keeper_field l ≤ 8
    by_field true f q = let z = eqb-true (keeper_field l) 0 f in omega arith
    by_field false f q = leb-true (keeper_field l) 8 (both_true (leb (keeper_field l) 8) (no_keys l) q).0

-- and where it is not zero, there are no keys
shares_none : (l : List ℕ) → keeper_shape l ≡ true → (keeper_field l ≡ 0 → ⊥) → (mask l ≡ 0) × (step l ≡ 0) × (zeros 400 32 l ≡ true)
unfolding keeper_shape no_keys
shares_none l e n =
    let p = both_true (leb (keeper_field l) 8) _ (rw (ne_eqb (keeper_field l) 0 n) at e) in
    let q = both_true (eqb (mask l) 0) (both (eqb (step l) 0) (zeros 400 32 l)) p.1 in
    let r = both_true (eqb (step l) 0) (zeros 400 32 l) q.1 in
    (eqb-true (mask l) 0 q.0, eqb-true (step l) 0 r.0, r.1)

pub used_sound : (u : ℕ) (l : List ℕ) → unit_state_of u l ≡ Used → UsedHas u l
unfolding unit_state_of used_shape
used_sound u l e =
    let p = used_parts (checked l) (zeros 492 0 l) (used_shape u l) e in
    let p1 = both_true _ _ p.1 in
    let p2 = both_true _ _ p1.1 in
    let p3 = both_true _ _ p2.1 in
    let p4 = both_true _ _ p3.1 in
    let p5 = both_true (either (eqb (step l) 1) (next_pair_zero l)) _ p4.1 in
    let p6 = both_true (keys_zero 16 l) _ p5.1 in
    let p7 = both_true (keeper_shape l) (unnamed_zero l) p6.1 in
    record {
      check = p.0;
      used = eqb-true _ _ p1.0;
      place = eqb-true _ _ p2.0;
      known = leb-true _ _ p3.0;
      pending = leb-true _ _ p4.0;
      field = field_small l p7.0;
      sharer = shares_none l p7.0;
      unnamed = p7.1;
    }

-- ---- the table

pub unit_length : (u : ℕ) (units : List ℕ) → length units ≡ 4096 → u < 8 → length (unit_at u units) ≡ 512
unit_length u units full h = simp (length-take, length-drop) (omega arith)

pub identifier_length : (l : List ℕ) → length l ≡ 512 → length (identifier l) ≡ 16
unfolding identifier
identifier_length l full = simp (length-take, length-drop) (omega arith)

-- ---- who keeps a unit's keys

-- an unused record names nobody
pub unused_field : (u : ℕ) (l : List ℕ) → unit_state_of u l ≡ Unused → keeper_field l ≡ 0
unfolding unit_state_of keeper_field
unused_field u l e = by_parts (checked l) (zeros 492 0 l) (used_shape u l) refl e
  where
    by_parts : (k z s : Bool) → zeros 492 0 l ≡ z → pick k (pick z Unused (pick s Used Unsound)) Unsound ≡ Unused → number 2 432 l ≡ 0
    by_parts true true s ez q = number_zeros 2 432 l (zeros_within 492 0 2 432 l (omega arith) (omega arith) ez)
    by_parts true false true ez q = let o : ◌≡◌ {A = ℕ} 0 1 = cc in absurd (omega arith)
    by_parts true false false ez q = let o : ◌≡◌ {A = ℕ} 0 1 = cc in absurd (omega arith)
    by_parts false z s ez q = let o : ◌≡◌ {A = ℕ} 0 1 = cc in absurd (omega arith)

pub is_used_lem : (s : UnitState) → is_used s ≡ true → s ≡ Used
is_used_lem Unused e = let z : ◌≡◌ {A = ℕ} 0 1 = cc in absurd (omega arith)
is_used_lem Used e = refl
is_used_lem Unsound e = let z : ◌≡◌ {A = ℕ} 0 1 = cc in absurd (omega arith)

module _ (units : List ℕ) (u : ℕ) where
  -- by the field of its record
  pub keeper_own : keeper_field (unit_at u units) ≡ 0 → keeper_of units u ≡ u
  unfolding keeper_of
  keeper_own e = rw (eq-eqb (keeper_field (unit_at u units)) 0 e)

  pub keeper_named : (keeper_field (unit_at u units) ≡ 0 → ⊥) → keeper_of units u ≡ keeper_field (unit_at u units) - 1
  unfolding keeper_of
  keeper_named n = rw (ne_eqb (keeper_field (unit_at u units)) 0 n)

  -- a unit that keeps keys is used, with zero there; so it keeps its own
  pub keeps_has : keeps_keys units u ≡ true → (unit_state_of u (unit_at u units) ≡ Used) × (keeper_field (unit_at u units) ≡ 0)
  unfolding keeps_keys
  keeps_has e =
      let p = both_true (is_used (unit_state_of u (unit_at u units))) (eqb (keeper_field (unit_at u units)) 0) e in
      (is_used_lem (unit_state_of u (unit_at u units)) p.0, eqb-true (keeper_field (unit_at u units)) 0 p.1)

  pub keeps_of : unit_state_of u (unit_at u units) ≡ Used → keeper_field (unit_at u units) ≡ 0 → keeps_keys units u ≡ true
  unfolding keeps_keys
  keeps_of e z = rw (e, eq-eqb (keeper_field (unit_at u units)) 0 z)

  -- sound and used on the table: by its own bytes, and its keeper keeps keys
  pub used_has : unit_state units u ≡ Used → (unit_state_of u (unit_at u units) ≡ Used) × (keeps_keys units (keeper_of units u) ≡ true)
  unfolding unit_state
  used_has e = by_state (unit_state_of u (unit_at u units)) (keeps_keys units (keeper_of units u)) e
    where
      by_state : (s : UnitState) (k : Bool) → kept_state k s ≡ Used → (s ≡ Used) × (k ≡ true)
      by_state Unused k q = let z : ◌≡◌ {A = ℕ} 0 1 = cc in absurd (omega arith)
      by_state Used true q = (refl, refl)
      by_state Used false q = let z : ◌≡◌ {A = ℕ} 0 1 = cc in absurd (omega arith)
      by_state Unsound k q = let z : ◌≡◌ {A = ℕ} 0 1 = cc in absurd (omega arith)

  pub used_of_keeper : unit_state_of u (unit_at u units) ≡ Used → keeps_keys units (keeper_of units u) ≡ true → unit_state units u ≡ Used
  unfolding unit_state
  used_of_keeper e k = rw (e, k)

  -- a used record whose keeper keeps none is unsound
  pub lost_keeper : unit_state_of u (unit_at u units) ≡ Used → keeps_keys units (keeper_of units u) ≡ false → unit_state units u ≡ Unsound
  unfolding unit_state
  lost_keeper e k = rw (e, k)

pub own_used : (units : List ℕ) (u : ℕ) → keeps_keys units u ≡ true → unit_state units u ≡ Used
own_used units u e =
    let p = keeps_has units u e in
    used_of_keeper units u p.0 (ap (keeps_keys units) (keeper_own units u p.1) ∙ e)

-- the keeper of a used unit is a unit, used, with keys of its own
module _ (units : List ℕ) (u : ℕ) (used : unit_state units u ≡ Used) where
  pub keeper_used : unit_state units (keeper_of units u) ≡ Used
  keeper_used = own_used units (keeper_of units u) (used_has units u used).1

  pub keeper_keeps : keeper_of units (keeper_of units u) ≡ keeper_of units u
  keeper_keeps = keeper_own units (keeper_of units u) (keeps_has units (keeper_of units u) (used_has units u used).1).1

  pub keeper_small : u < 8 → keeper_of units u < 8
  keeper_small h = by_field (eqb (keeper_field (unit_at u units)) 0) refl
    where
      by_field : (b : Bool) → eqb (keeper_field (unit_at u units)) 0 ≡ b → keeper_of units u < 8
      by_field true e = rw (keeper_own units u (eqb-true (keeper_field (unit_at u units)) 0 e)) h
      by_field false e =
          let n = eqb-false (keeper_field (unit_at u units)) 0 e in
          let f = (used_sound u (unit_at u units) (used_has units u used).0).field in
          rw (keeper_named units u n) (omega arith)

  pub key_set_length : length units ≡ 4096 → u < 8 → length (key_set_of units u) ≡ 512
  unfolding key_set_of
  key_set_length full h = unit_length (keeper_of units u) units full (keeper_small h)

-- two tables: the keeper of a unit hangs on its field, and its state on those of the records by their own bytes and on the fields
module _ (us vs : List ℕ) where
  pub same_keeper : (u : ℕ) → keeper_field (unit_at u us) ≡ keeper_field (unit_at u vs) → keeper_of us u ≡ keeper_of vs u
  unfolding keeper_of
  same_keeper u e = rw e

  pub same_keeps : (k : ℕ) → unit_at k us ≡ unit_at k vs → keeps_keys us k ≡ keeps_keys vs k
  unfolding keeps_keys
  same_keeps k e = rw e

  pub same_state : ((v : ℕ) → unit_state_of v (unit_at v us) ≡ unit_state_of v (unit_at v vs))
      → ((v : ℕ) → keeper_field (unit_at v us) ≡ keeper_field (unit_at v vs)) → (u : ℕ) → unit_state us u ≡ unit_state vs u
  unfolding unit_state keeps_keys
  same_state states fields u =
      rw (states u, same_keeper u (fields u), states (keeper_of vs u), fields (keeper_of vs u))

-- ---- the state on the table, as the code finds it: own bytes first, then the keeper's where there is one

module _ (units : List ℕ) (u : ℕ) (s : UnitState) (es : s ≡ unit_state_of u (unit_at u units)) (f : ℕ) (ef : f ≡ keeper_field (unit_at u units))
  where
    pub state_own : f ≡ 0 → s ≡ unit_state units u
    unfolding unit_state
    state_own z = by_state s refl
      where
        by_state : (t : UnitState) → s ≡ t → t ≡ kept_state (keeps_keys units (keeper_of units u)) (unit_state_of u (unit_at u units))
        by_state Unused e = rw (← es, e)
        by_state Used e =
            let own = keeper_own units u (sym ef ∙ z) in
            rw (own, keeps_of units u (sym es ∙ e) (sym ef ∙ z), ← es, e)
        by_state Unsound e = rw (← es, e)

    pub state_unkept : (b : Bool) → b ≡ is_used s → b ≡ false → s ≡ unit_state units u
    unfolding unit_state
    state_unkept b eb n = by_state s refl
      where
        by_state : (t : UnitState) → s ≡ t → t ≡ kept_state (keeps_keys units (keeper_of units u)) (unit_state_of u (unit_at u units))
        by_state Unused e = rw (← es, e)
        by_state Used e =
            let q : true ≡ false = ap is_used (sym e) ∙ sym eb ∙ n in
            let z : ◌≡◌ {A = ℕ} 0 1 = cc in
            absurd (omega arith)
        by_state Unsound e = rw (← es, e)

    pub state_kept : s ≡ Used → (f ≡ 0 → ⊥) → (k : Bool) → k ≡ keeps_keys units (f - 1) → pick k Used Unsound ≡ unit_state units u
    unfolding unit_state
    state_kept e n k ek =
        let named : keeper_of units u ≡ f - 1 = keeper_named units u (λ z. n (ef ∙ z)) ∙ ap (λ (x : ℕ). x - 1) (sym ef) in
        rw (← es, e, named, ek)

-- ---- whether a unit keeps keys, as the code finds it

module _ (units : List ℕ) (u : ℕ) (l : List ℕ) (f : ℕ) (el : l ≡ unit_at u units) (ef : f ≡ keeper_field l) where
  pub keeps_own : f ≡ 0 → (s : UnitState) → s ≡ unit_state_of u l → (b : Bool) → b ≡ is_used s → b ≡ keeps_keys units u
  unfolding keeps_keys
  keeps_own z s es b eb =
      let field = eq-eqb (keeper_field (unit_at u units)) 0 (ap keeper_field (sym el) ∙ sym ef ∙ z) in
      rw (field, ← el, ← es) (eb ∙ sym (both_right (is_used s)))

  pub keeps_none : (f ≡ 0 → ⊥) → false ≡ keeps_keys units u
  unfolding keeps_keys
  keeps_none n =
      let field = ne_eqb (keeper_field (unit_at u units)) 0 (λ z. n (ef ∙ ap keeper_field el ∙ z)) in
      rw field (sym (both_none (is_used (unit_state_of u (unit_at u units)))))
