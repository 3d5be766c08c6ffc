-- `same` tells whether two lists are equal, and so does the or of the differences of their bytes.
use Rattle.std.specs.Prelude.{ℕ, ◌+◌, ◌≤◌, ◌<◌, ◌≡◌, refl, Bool, true, false, length, get_or, drop, eqb}
use Rattle.std.proofs.Math.Path.{sym, ap₂}
use Rattle.std.proofs.Common.{ap, ◌∙◌, arith, add-one, length-drop, take-suc, take_all, get_or-take, get_or-drop, length-take-le, take_at, eq-eqb, eqb-true}
use mathlib.Core.List.{List, [], ◌∷◌, ◌++◌}
use Rattle.std.proofs.Math.ListN.{take}
use Rattle.std.proofs.lemmas.List.{get_or_at}
use Rattle.std.specs.Int.Bits.{bit_or, bit_xor, or_add_and, xor_add_and, xor_self}
use Rattle.std.proofs.lemmas.Nat.{and_le_l, and_le_r}
use Rattle.choice.specs.ChoiceLaws.{both_true}
use Rattle.wire.specs.Bytes.{same, part}

pub same_refl : (xs : List ℕ) → same xs xs ≡ true
unfolding same
same_refl [] = refl
same_refl (x ∷ xs) = rw (eq-eqb x x refl, same_refl xs)

pub same_true : (xs ys : List ℕ) → same xs ys ≡ true → xs ≡ ys
unfolding same
same_true [] [] e = refl
same_true [] (y ∷ ys) e = cc
same_true (x ∷ xs) [] e = cc
same_true (x ∷ xs) (y ∷ ys) e =
    let p = both_true (eqb x y) (same xs ys) e in
    ap₂ (λ (z : ℕ) (zs : List ℕ). z ∷ zs) (eqb-true x y p.0) (same_true xs ys p.1)

-- a test that is true exactly where the lists are equal is `same`
pub same_is : (t : Bool) (xs ys : List ℕ) → (t ≡ true → xs ≡ ys) → (xs ≡ ys → t ≡ true) → t ≡ same xs ys
same_is true xs ys e f = sym (ap (same xs) (sym (e refl)) ∙ same_refl xs)
same_is false xs ys e f = other (same xs ys) refl
  where
    other : (s : Bool) → same xs ys ≡ s → false ≡ same xs ys
    other true q = f (same_true xs ys q) ∙ sym q
    other false q = sym q

-- ---- differences

pub or_none : (a b : ℕ) → bit_or a b ≡ 0 → (a ≡ 0) × (b ≡ 0)
or_none a b e = (omega (arith, or_add_and a b, and_le_l a b, and_le_r a b), omega (arith, or_add_and a b, and_le_l a b, and_le_r a b))

xor_none : (a b : ℕ) → bit_xor a b ≡ 0 → a ≡ b
xor_none a b e = omega (arith, xor_add_and a b, and_le_l a b, and_le_r a b)

-- the or d of the differences of the first i bytes is zero exactly where those bytes are the same
pub record Differs (xs ys : List ℕ) (i d : ℕ) : Type 0 where
  pub none : d ≡ 0 → take i xs ≡ take i ys
  pub some : take i xs ≡ take i ys → d ≡ 0

pub differs_zero : (xs ys : List ℕ) → Differs xs ys 0 0
differs_zero xs ys = record { none = λ e. refl; some = λ e. refl }

module _ (xs ys : List ℕ) (i d : ℕ) (hx : i < length xs) (hy : i < length ys) (k : Differs xs ys i d) where
  x : ℕ
  x = get_or xs i 0

  y : ℕ
  y = get_or ys i 0

  longer : (zs : List ℕ) → i < length zs → take (i + 1) zs ≡ take i zs ++ (get_or zs i 0 ∷ [])
  longer zs h = ap (λ (j : ℕ). take j zs) (add-one i) ∙ take-suc zs i 0 h

  -- what stands at i, and what stands before it, in the first i + 1 bytes
  last : (zs : List ℕ) → i < length zs → get_or (take (i + 1) zs) i 0 ≡ get_or zs i 0
  last zs h = ap (λ (l : List ℕ). get_or l i 0) (longer zs h) ∙ get_or_at (take i zs) (get_or zs i 0) [] 0 i (length-take-le i zs (omega arith))

  front : (zs : List ℕ) → i < length zs → take i (take (i + 1) zs) ≡ take i zs
  front zs h = ap (take i) (longer zs h) ∙ take_at (take i zs) (get_or zs i 0 ∷ []) i (length-take-le i zs (omega arith))

  pub differs_more : Differs xs ys (i + 1) (bit_or d (bit_xor (get_or xs i 0) (get_or ys i 0)))
  unfolding x y
  differs_more = record { none = none_more; some = some_more }
    where
      none_more : bit_or d (bit_xor x y) ≡ 0 → take (i + 1) xs ≡ take (i + 1) ys
      none_more e =
          let p = or_none d (bit_xor x y) e in
          longer xs hx ∙ ap₂ (λ (l : List ℕ) (z : ℕ). l ++ (z ∷ [])) (k.none p.0) (xor_none x y p.1) ∙ sym (longer ys hy)

      some_more : take (i + 1) xs ≡ take (i + 1) ys → bit_or d (bit_xor x y) ≡ 0
      some_more e =
          let ez : x ≡ y = sym (last xs hx) ∙ ap (λ (l : List ℕ). get_or l i 0) e ∙ last ys hy in
          let ed : d ≡ 0 = k.some (sym (front xs hx) ∙ ap (take i) e ∙ front ys hy) in
          ap₂ bit_or ed (ap (λ (z : ℕ). bit_xor z y) ez ∙ xor_self y)

pub differs_done : (xs ys : List ℕ) (i d : ℕ) → length xs ≤ i → length ys ≤ i → Differs xs ys i d → eqb d 0 ≡ same xs ys
differs_done xs ys i d hx hy k =
    same_is (eqb d 0) xs ys
    (λ e. sym (take_all i xs hx) ∙ k.none (eqb-true d 0 e) ∙ take_all i ys hy)
    (λ e. eq-eqb d 0 (k.some (ap (take i) e)))

-- ---- parts of two longer lists

module _ (s t : List ℕ) (a b n : ℕ) (hs : a + n ≤ length s) (ht : b + n ≤ length t) where
  part_full : (l : List ℕ) (k : ℕ) → k + n ≤ length l → length (part k n l) ≡ n
  part_full l k h = length-take-le n (drop k l) (rw length-drop (omega arith))

  part_byte : (l : List ℕ) (k i : ℕ) → i < n → get_or (part k n l) i 0 ≡ get_or l (k + i) 0
  part_byte l k i h = get_or-take n (drop k l) i 0 h ∙ get_or-drop k l i 0

  pub parts_more : (i d : ℕ) → i < n → Differs (part a n s) (part b n t) i d
      → Differs (part a n s) (part b n t) (i + 1) (bit_or d (bit_xor (get_or s (a + i) 0) (get_or t (b + i) 0)))
  parts_more i d h k =
      rw (← part_byte s a i h, ← part_byte t b i h)
      (differs_more (part a n s) (part b n t) i d (omega (arith, part_full s a hs)) (omega (arith, part_full t b ht)) k)

  pub parts_done : (i d : ℕ) → n ≤ i → Differs (part a n s) (part b n t) i d → eqb d 0 ≡ same (part a n s) (part b n t)
  parts_done i d h k = differs_done (part a n s) (part b n t) i d (omega (arith, part_full s a hs)) (omega (arith, part_full t b ht)) k
