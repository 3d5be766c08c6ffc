-- Laws of a run of zeros: as a loop finds it, and as a list has it.
use Rattle.std.specs.Prelude.{◌≡◌, refl, ◌⊎◌, Bool, true, false, List, ℕ, zero, suc, ◌+◌, ◌-◌, ◌≤◌, ◌<◌, eqb, ltb, length, get_or, replicate, take, drop, min}
use Rattle.std.proofs.Common.{◌∙◌, sym, ap, inl, inr, ⊎_elim, arith, add-zero, zero-add, length-take, length-drop, ext_get_or, get_or-take, get_or-drop, eq-eqb, ne_eqb, eqb-true, ltb-true, ltb-false}
use Rattle.std.specs.Int.Bits.{bit_or}
use Rattle.std.proofs.Math.ListN.{get_or-eq_default}
use Rattle.std.proofs.lemmas.List.{get_or-replicate, length-replicate}
use Rattle.std.proofs.lemmas.Bool.{eqb-false}
use Rattle.choice.specs.Choice.{both}
use Rattle.choice.specs.ChoiceLaws.{both_true}
use Rattle.wire.specs.Bytes.{part, number, zeros, patch}
use Rattle.wire.proofs.NumberLaws.{number_none}
use Rattle.wire.proofs.SameLaws.{or_none}
use Rattle.wire.proofs.PatchLaws.{at_outside, parts_same}

-- ---- the bytes: each is zero, and each being zero is enough

pub zeros_at : (n a : ℕ) (l : List ℕ) → zeros n a l ≡ true → (i : ℕ) → i < n → get_or l (a + i) 0 ≡ 0
unfolding zeros
zeros_at zero a l e i h = let f : ⊥ = omega arith in absurd f
zeros_at (suc n) a l e zero h = rw add-zero (eqb-true (get_or l a 0) 0 (both_true (eqb (get_or l a 0) 0) (zeros n (a + 1) l) e).0)
zeros_at (suc n) a l e (suc i) h =
    let q : a + 1 + i ≡ a + suc i = omega arith in
    rw q at (zeros_at n (a + 1) l (both_true (eqb (get_or l a 0) 0) (zeros n (a + 1) l) e).1 i (omega arith))

pub zeros_all : (n a : ℕ) (l : List ℕ) → ((i : ℕ) → i < n → get_or l (a + i) 0 ≡ 0) → zeros n a l ≡ true
unfolding zeros
zeros_all zero a l e = refl
zeros_all (suc n) a l e =
    let z : get_or l a 0 ≡ 0 = rw add-zero at (e 0 (omega arith)) in
    let t : zeros n (a + 1) l ≡ true =
    zeros_all n (a + 1) l (λ i h. let q : a + suc i ≡ a + 1 + i = omega arith in rw q at (e (suc i) (omega arith))) in
    rw (eq-eqb (get_or l a 0) 0 z, t)

-- ---- the loop: the or of the bytes so far, and the bytes that are left

or_zero : (x y : ℕ) → eqb (bit_or x y) 0 ≡ both (eqb x 0) (eqb y 0)
or_zero x y = go (eqb x 0) (eqb y 0) refl refl
  where
    go : (s t : Bool) → eqb x 0 ≡ s → eqb y 0 ≡ t → eqb (bit_or x y) 0 ≡ both (eqb x 0) (eqb y 0)
    go true true es et = rw (eqb-true x 0 es, eqb-true y 0 et)
    go true false es et = rw (es, et) (ne_eqb (bit_or x y) 0 (λ e. eqb-false y 0 et (or_none x y e).1))
    go false t es et = rw es (ne_eqb (bit_or x y) 0 (λ e. eqb-false x 0 es (or_none x y e).0))

both_assoc : (r s t : Bool) → both (both r s) t ≡ both r (both s t)
both_assoc true s t = refl
both_assoc false s t = refl

-- one byte more, of the bytes from i up to e
pub zeros_more : (any i e : ℕ) (l : List ℕ) → i < e
    → both (eqb (bit_or any (get_or l i 0)) 0) (zeros (e - (i + 1)) (i + 1) l) ≡ both (eqb any 0) (zeros (e - i) i l)
unfolding zeros
zeros_more any i e l h =
    let left : e - i ≡ suc (e - (i + 1)) = omega arith in
    rw (left, or_zero any (get_or l i 0), both_assoc (eqb any 0) (eqb (get_or l i 0) 0) (zeros (e - (i + 1)) (i + 1) l))

-- none left, up to e or up to the list's end
pub zeros_done : (any i e : ℕ) (l : List ℕ) → (i ≡ e) ⊎ (length l ≤ i) → eqb any 0 ≡ both (eqb any 0) (zeros (e - i) i l)
zeros_done any i e l end = rw (left end) (both_right (eqb any 0))
  where
    left : (i ≡ e) ⊎ (length l ≤ i) → zeros (e - i) i l ≡ true
    left (inl at) = zeros_all (e - i) i l (λ j h. let f : ⊥ = omega arith in absurd f)
    left (inr past) = zeros_all (e - i) i l (λ j h. get_or-eq_default l 0 (omega arith))

    both_right : (t : Bool) → t ≡ both t true
    both_right true = refl
    both_right false = refl

-- the loop runs over those of the n bytes from a on that the list has; each of them is one of its items, at a place a with room left
module _ (n a start end : ℕ) (l : List ℕ) (from : start ≡ min a end) (to : end ≡ min (a + n) (length l)) where
  items : List ℕ
  items = take (end - start) (drop start l)

  item_at : (i : ℕ) → i < end - start → get_or items i 0 ≡ get_or l (a + i) 0
  unfolding items
  item_at i h =
      let e : start ≡ a = omega arith in
      get_or-take (end - start) (drop start l) i 0 h ∙ get_or-drop start l i 0 ∙ ap (λ (k : ℕ). get_or l (k + i) 0) e

  count : length items ≡ end - start
  unfolding items
  count = simp (length-take, length-drop) (omega arith)

  pub zeros_lent : zeros (length (take (end - start) (drop start l))) 0 (take (end - start) (drop start l)) ≡ zeros n a l
  unfolding items
  zeros_lent = both_ways (zeros (length items) 0 items) (zeros n a l) there back
    where
      both_ways : (s t : Bool) → (s ≡ true → t ≡ true) → (t ≡ true → s ≡ true) → s ≡ t
      both_ways true t f g = sym (f refl)
      both_ways false true f g = g refl
      both_ways false false f g = refl

      there : zeros (length items) 0 items ≡ true → zeros n a l ≡ true
      there z = zeros_all n a l (λ i h. by_place i h (ltb i (end - start)) refl)
        where
          by_place : (i : ℕ) → i < n → (b : Bool) → ltb i (end - start) ≡ b → get_or l (a + i) 0 ≡ 0
          by_place i h true e =
              let k : i < end - start = ltb-true i (end - start) e in
              sym (item_at i k) ∙ rw (zero-add i) at (zeros_at (length items) 0 items z i (rw count k))
          by_place i h false e =
              let k : end - start ≤ i = ltb-false i (end - start) e in
              get_or-eq_default l 0 (omega arith)

      back : zeros n a l ≡ true → zeros (length items) 0 items ≡ true
      back z =
          zeros_all (length items) 0 items
          (λ i h. let k : i < end - start = rw count at h in
          rw (zero-add i) (item_at i k ∙ zeros_at n a l z i (omega arith)))

pub zeros_none : (n a : ℕ) (l : List ℕ) → n ≡ 0 → zeros n a l ≡ true
unfolding zeros
zeros_none n a l z = rw z

-- a patch apart
pub zeros_outside : (xs : List ℕ) (a : ℕ) (ys : List ℕ) → a + length ys ≤ length xs → (n b : ℕ) → (b + n ≤ a) ⊎ (a + length ys ≤ b)
    → zeros n b xs ≡ true → zeros n b (patch xs a ys) ≡ true
zeros_outside xs a ys fits n b apart z =
    zeros_all n b (patch xs a ys)
    (λ i h. at_outside xs a ys fits (b + i) (⊎_elim (λ g. inl (omega arith)) (λ g. inr (omega arith)) apart) ∙ zeros_at n b xs z i h)

-- a list of zeros, and a part of a list that is one
pub zeros_replicate : (k n a : ℕ) → a + n ≤ k → zeros n a (replicate k 0) ≡ true
zeros_replicate k n a h = zeros_all n a (replicate k 0) (λ i g. get_or-replicate k (a + i) 0 0 (omega arith))

pub zeros_part : (n a : ℕ) (l : List ℕ) → a + n ≤ length l → zeros n a l ≡ true → part a n l ≡ replicate n 0
zeros_part n a l h z =
    ext_get_or 0 (part a n l) (replicate n 0) lens
    (λ i g. let k : i < n = omega (arith, lens, length-replicate {A = ℕ} n 0) in
    get_or-take n (drop a l) i 0 k ∙ get_or-drop a l i 0 ∙ zeros_at n a l z i k ∙ sym (get_or-replicate n i 0 0 k))
  where
    lens : length (part a n l) ≡ length {A = ℕ} (replicate n 0)
    lens = simp (length-take, length-drop, length-replicate) (omega arith)

pub zeros_of : (n a : ℕ) (l : List ℕ) → part a n l ≡ replicate n 0 → zeros n a l ≡ true
zeros_of n a l e =
    zeros_all n a l (λ i h. sym (get_or-take n (drop a l) i 0 h ∙ get_or-drop a l i 0) ∙ ap (λ (x : List ℕ). get_or x i 0) e ∙ get_or-replicate n i 0 0 h)

-- two runs of zeros, one behind the other, make one
pub zeros_join : (n m a : ℕ) (l : List ℕ) → zeros n a l ≡ true → zeros m (a + n) l ≡ true → zeros (n + m) a l ≡ true
zeros_join n m a l z w = zeros_all (n + m) a l (λ i h. by_place i h (ltb i n) refl)
  where
    by_place : (i : ℕ) → i < n + m → (b : Bool) → ltb i n ≡ b → get_or l (a + i) 0 ≡ 0
    by_place i h true e = zeros_at n a l z i (ltb-true i n e)
    by_place i h false e =
        let k : n ≤ i = ltb-false i n e in
        let q : a + n + (i - n) ≡ a + i = omega arith in
        rw q at (zeros_at m (a + n) l w (i - n) (omega arith))

-- two lists that agree on n bytes of a room, with zeros in the rest of it, agree on all of it
pub room_same : (a room n : ℕ) (l k : List ℕ) → n ≤ room → a + room ≤ length l → a + room ≤ length k → part a n l ≡ part a n k
    → zeros (room - n) (a + n) l ≡ true → zeros (room - n) (a + n) k ≡ true → part a room l ≡ part a room k
room_same a room n l k h hl hk e zl zk =
    let all : n + (room - n) ≡ room = omega arith in
    let rest : part (a + n) (room - n) l ≡ part (a + n) (room - n) k =
    zeros_part (room - n) (a + n) l (omega arith) zl ∙ sym (zeros_part (room - n) (a + n) k (omega arith) zk) in
    rw all at (parts_same a n (room - n) l k e rest)

-- a run of zeros within a run of zeros
pub zeros_within : (n a m b : ℕ) (l : List ℕ) → a ≤ b → b + m ≤ a + n → zeros n a l ≡ true → zeros m b l ≡ true
zeros_within n a m b l h k z =
    zeros_all m b l (λ i g. let e : a + (b + i - a) ≡ b + i = omega arith in rw e at (zeros_at n a l z (b + i - a) (omega arith)))

-- the number in a run of zeros
pub number_zeros : (n a : ℕ) (l : List ℕ) → zeros n a l ≡ true → number n a l ≡ 0
number_zeros n a l z = number_none n a l (zeros_at n a l z)
