-- Laws of the search for a free slot: as a loop goes on, and what its result says of the slots.
use Rattle.std.specs.Prelude.{◌≡◌, refl, ◌⊎◌, Bool, true, false, List, ℕ, zero, suc, ◌+◌, ◌-◌, ◌≤◌, ◌<◌, Option, Some, None}
use Rattle.std.proofs.Common.{◌∙◌, sym, ap, inl, inr, ⊎_elim, arith, eq-or-lt_of_le}
use Rattle.choice.specs.Choice.{pick}
use Rattle.slots.specs.Slot.{slot_state_of, slot_at, is_free, free_from, lowest_free}

-- ---- the loop, at slot i of sixteen: one that is not free, one that is, none left

left_suc : (i : ℕ) → i < 16 → 16 - i ≡ suc (16 - (i + 1))
left_suc i h = omega arith

module _ (i : ℕ) (slots : List ℕ) (h : i < 16) where
  pub free_more : is_free (slot_state_of (slot_at i slots)) ≡ false → free_from (16 - i) i slots ≡ free_from (16 - (i + 1)) (i + 1) slots
  unfolding free_from
  free_more e = rw (left_suc i h, e)

  pub free_hit : is_free (slot_state_of (slot_at i slots)) ≡ true → free_from (16 - i) i slots ≡ Some i
  unfolding free_from
  free_hit e = rw (left_suc i h, e)

pub free_none : (n i : ℕ) (slots : List ℕ) → n ≡ 0 → free_from n i slots ≡ None
unfolding free_from
free_none n i slots z = rw z

-- ---- the result

-- one of the n slots from i on, free, and none before it
record Lowest (n i : ℕ) (slots : List ℕ) (s : ℕ) : Type 0 where
  pub from : i ≤ s
  pub below : s < i + n
  pub hit : is_free (slot_state_of (slot_at s slots)) ≡ true
  pub before : (j : ℕ) → i ≤ j → j < s → is_free (slot_state_of (slot_at j slots)) ≡ false

-- the first slot is found, or the search goes on behind it
first_or : (b : Bool) (i : ℕ) (f : Option ℕ) (s : ℕ) → pick b (Some i) f ≡ Some s
    → ((b ≡ true) × (s ≡ i)) ⊎ ((b ≡ false) × (f ≡ Some s))
first_or true i f s e = inl (refl, cc)
first_or false i f s e = inr (refl, e)

-- nothing is found: the first slot is not free, and nothing is found behind it
first_none : (b : Bool) (s : ℕ) (f : Option ℕ) → pick b (Some s) f ≡ None → (b ≡ false) × (f ≡ None)
first_none true s f e = (cc, cc)
first_none false s f e = (refl, e)

-- what is known of i and of the slots behind it
behind : (i : ℕ) (slots : List ℕ) (P : ℕ → Type 0) → is_free (slot_state_of (slot_at i slots)) ≡ false
    → ((j : ℕ) → i + 1 ≤ j → P j → is_free (slot_state_of (slot_at j slots)) ≡ false)
    → (j : ℕ) → i ≤ j → P j → is_free (slot_state_of (slot_at j slots)) ≡ false
behind i slots P b f j h k =
    ⊎_elim (λ e. ap (λ (x : ℕ). is_free (slot_state_of (slot_at x slots))) (sym e) ∙ b) (λ g. f j (omega arith) k) (eq-or-lt_of_le h)

found_from : (n i : ℕ) (slots : List ℕ) (s : ℕ) → free_from n i slots ≡ Some s → Lowest n i slots s
unfolding free_from
found_from zero i slots s e = let z : ◌≡◌ {A = ℕ} 0 1 = cc in absurd (omega arith)
found_from (suc n) i slots s e =
    ⊎_elim here (λ p. there p.0 (found_from n (i + 1) slots s p.1))
    (first_or (is_free (slot_state_of (slot_at i slots))) i (free_from n (i + 1) slots) s e)
  where
    here : (is_free (slot_state_of (slot_at i slots)) ≡ true) × (s ≡ i) → Lowest (suc n) i slots s
    here p =
        let e : s ≡ i = p.1 in
        record {
          from = omega arith;
          below = omega arith;
          hit = ap (λ (x : ℕ). is_free (slot_state_of (slot_at x slots))) e ∙ p.0;
          before = λ j h k. absurd (omega arith);
        }

    there : is_free (slot_state_of (slot_at i slots)) ≡ false → Lowest n (i + 1) slots s → Lowest (suc n) i slots s
    there b w =
        record {
          from = omega arith;
          below = omega arith;
          hit = w.hit;
          before = behind i slots (λ (j : ℕ). j < s) b w.before;
        }

none_from : (n i : ℕ) (slots : List ℕ) → free_from n i slots ≡ None → (j : ℕ) → i ≤ j → j < i + n
    → is_free (slot_state_of (slot_at j slots)) ≡ false
unfolding free_from
none_from zero i slots e j h k = absurd (omega arith)
none_from (suc n) i slots e j h k =
    let p = first_none (is_free (slot_state_of (slot_at i slots))) i (free_from n (i + 1) slots) e in
    behind i slots (λ (x : ℕ). x < i + 1 + n) p.0 (none_from n (i + 1) slots p.1) j h (omega arith)

-- the slot found is free, and none below it is
pub lowest : (slots : List ℕ) (s : ℕ) → lowest_free slots ≡ Some s
    → (s < 16) × (is_free (slot_state_of (slot_at s slots)) ≡ true)
    × ((j : ℕ) → j < s → is_free (slot_state_of (slot_at j slots)) ≡ false)
unfolding lowest_free
lowest slots s e = let w = found_from 16 0 slots s e in (omega (arith, w.below), w.hit, λ j h. w.before j (omega arith) h)

-- where none is found, none is free
pub none_free : (slots : List ℕ) → lowest_free slots ≡ None → (j : ℕ) → j < 16 → is_free (slot_state_of (slot_at j slots)) ≡ false
unfolding lowest_free
none_free slots e j h = none_from 16 0 slots e j (omega arith) (omega arith)
