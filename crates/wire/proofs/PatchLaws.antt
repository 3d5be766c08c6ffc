-- Laws of a patched list: its length, and what stands in it inside and outside the patch, byte by byte and part by part.
use Rattle.std.specs.Prelude.{◌≡◌, ◌⊎◌, Bool, true, false, eqb, ltb}
use Rattle.std.proofs.Math.Path.{refl, sym, ap}
use Rattle.std.proofs.Common.{◌∙◌, ap₂, inl, inr, ⊎_elim, arith, length-take, length-drop, take-append-drop, drop_of_length-le, add_assoc, eqb-true, ltb-true, ltb-false, take-add, drop_at, length-take-le, ext_get_or}
use mathlib.Core.List.{List, [], ◌++◌, append_assoc, append-nil}
use Prim.Native.Nat.{ℕ, ◌+◌, ◌-◌, ◌*◌, ◌≤◌, ◌<◌}
use Rattle.std.proofs.Math.ListN.{length, take, drop, get_or, length-append, get_or-append}
use Rattle.std.proofs.Math.Nat.{add-sub_cancel_left}
use Rattle.std.proofs.lemmas.Bool.{eqb-false}
use Rattle.std.proofs.Math.Seq.{paste, take_at, take-length, drop-drop, get_or-append-add, get_or-take, get_or-drop}
use Rattle.std.proofs.lemmas.List.Edits.{sets, sets-eq}
use Rattle.wire.specs.Bytes.{part, patch}

pub length_patch : (xs : List ℕ) (a : ℕ) (ys : List ℕ) → a + length ys ≤ length xs → length (patch xs a ys) ≡ length xs
unfolding patch
length_patch xs a ys h = simp (length-append, length-take, length-drop) (omega arith)

-- a copy of all of ys
pub patch_paste : (xs : List ℕ) (a : ℕ) (ys : List ℕ) (n : ℕ) → n ≡ length ys → paste xs a ys n ≡ patch xs a ys
unfolding patch
patch_paste xs a ys n e = rw (e, take-length ys, append_assoc (take a xs) ys, drop-drop (length ys) a xs)

-- a patch is made of stores one after another
pub patch_sets : (xs : List ℕ) (a : ℕ) (ys : List ℕ) → a + length ys ≤ length xs → patch xs a ys ≡ sets xs a ys
unfolding patch
patch_sets xs a ys h =
    ap (λ (l : List ℕ). take a xs ++ (ys ++ l)) (drop-drop (length ys) a xs)
    ∙ sym (append_assoc (take a xs) ys (drop (a + length ys) xs)) ∙ sym (sets-eq ys xs a h)

-- a patch of no bytes, and one of all
pub patch_none : (xs : List ℕ) (a : ℕ) → patch xs a [] ≡ xs
unfolding patch
patch_none xs a = take-append-drop a xs

pub patch_all : (xs ys : List ℕ) → length xs ≤ length ys → patch xs 0 ys ≡ ys
unfolding patch
patch_all xs ys h = rw (drop_of_length-le xs h) (append-nil ys)

-- the n bytes from a on were lent, as `&mut xs[a..a + n]`, and came back as ys
pub patch_lent : (xs : List ℕ) (a n : ℕ) (ys zs : List ℕ) → a + n ≤ length xs → length ys ≡ length (take (a + n - a) (drop a xs)) → ys ≡ zs
    → take a xs ++ (ys ++ drop (a + n - a) (drop a xs)) ≡ patch xs a zs
unfolding patch
patch_lent xs a n ys zs h k e =
    let el : length ys ≡ a + n - a = simp (length-take, length-drop) at k ∙ omega arith in
    rw (← el, e)

-- the n bytes from a on, as `&l[a..a + n]` lends them
pub lent_part : (l : List ℕ) (a n : ℕ) → take (a + n - a) (drop a l) ≡ part a n l
lent_part l a n = rw (add-sub_cancel_left a n)

-- two parts, one behind the other, make one
pub part_join : (a n m : ℕ) (l xs ys : List ℕ) → xs ≡ part a n l → ys ≡ part (a + n) m l → xs ++ ys ≡ part a (n + m) l
part_join a n m l xs ys ex ey =
    ap₂ (λ (x y : List ℕ). x ++ y) ex (ey ∙ ap (take m) (sym (drop-drop n a l))) ∙ sym (take-add n m (drop a l))

-- and two lists that agree on both agree on the one
pub parts_same : (a n m : ℕ) (l k : List ℕ) → part a n l ≡ part a n k → part (a + n) m l ≡ part (a + n) m k
    → part a (n + m) l ≡ part a (n + m) k
parts_same a n m l k e f =
    sym (part_join a n m l (part a n l) (part (a + n) m l) refl refl) ∙ part_join a n m k (part a n l) (part (a + n) m l) e f

-- what starts with one list, then another, has the one as its first part, with the other behind it
pub part_next : (a n : ℕ) (l xs ys zs : List ℕ) → length xs ≡ n → drop a l ≡ (xs ++ ys) ++ zs
    → (part a n l ≡ xs) × (drop (a + n) l ≡ ys ++ zs)
part_next a n l xs ys zs k e =
    let d : drop a l ≡ xs ++ (ys ++ zs) = e ∙ append_assoc xs ys zs in (
      ap (take n) d ∙ take_at xs (ys ++ zs) n k,
      sym (drop-drop n a l) ∙ ap (drop n) d ∙ drop_at xs (ys ++ zs) n k,
    )

module _ (xs : List ℕ) (a : ℕ) (ys : List ℕ) (fits : a + length ys ≤ length xs) where
  front : length (take a xs) ≡ a
  front = length-take-le a xs (omega arith)

  at_before : (i : ℕ) → i < a → get_or (patch xs a ys) i 0 ≡ get_or xs i 0
  unfolding patch
  at_before i h = get_or-append (take a xs) _ 0 i (rw front h) ∙ get_or-take a xs i 0 h

  at_in : (i : ℕ) → i < length ys → get_or (patch xs a ys) (a + i) 0 ≡ get_or ys i 0
  unfolding patch
  at_in i h =
      ap (λ (k : ℕ). get_or (take a xs ++ (ys ++ drop (length ys) (drop a xs))) (k + i) 0) (sym front)
      ∙ get_or-append-add (take a xs) (ys ++ drop (length ys) (drop a xs)) i 0
      ∙ get_or-append ys _ 0 i h

  at_after : (j : ℕ) → get_or (patch xs a ys) (a + (length ys + j)) 0 ≡ get_or xs (a + (length ys + j)) 0
  unfolding patch
  at_after j =
      ap (λ (k : ℕ). get_or (take a xs ++ (ys ++ drop (length ys) (drop a xs))) (k + (length ys + j)) 0) (sym front)
      ∙ get_or-append-add (take a xs) (ys ++ drop (length ys) (drop a xs)) (length ys + j) 0
      ∙ get_or-append-add ys (drop (length ys) (drop a xs)) j 0
      ∙ get_or-drop (length ys) (drop a xs) j 0
      ∙ get_or-drop a xs (length ys + j) 0

  -- a byte outside, and one inside
  pub at_outside : (i : ℕ) → (i < a) ⊎ (a + length ys ≤ i) → get_or (patch xs a ys) i 0 ≡ get_or xs i 0
  at_outside i (inl h) = at_before i h
  at_outside i (inr h) =
      let e : a + (length ys + (i - (a + length ys))) ≡ i = omega arith in
      rw e at (at_after (i - (a + length ys)))

  pub at_inside : (i : ℕ) → i < length ys → get_or (patch xs a ys) (a + i) 0 ≡ get_or ys i 0
  at_inside i h = at_in i h

  -- a part outside is as it was
  pub part_outside : (b n : ℕ) → (b + n ≤ a) ⊎ (a + length ys ≤ b) → part b n (patch xs a ys) ≡ part b n xs
  part_outside b n apart =
      ext_get_or 0 (part b n (patch xs a ys)) (part b n xs) (simp (length-take, length-drop, length_patch xs a ys fits))
      (λ i h. let k : i < n = small i h in
      get_or-take n (drop b (patch xs a ys)) i 0 k ∙ get_or-drop b (patch xs a ys) i 0 ∙ at_outside (b + i) (out i k)
      ∙ sym (get_or-take n (drop b xs) i 0 k ∙ get_or-drop b xs i 0))
    where
      small : (i : ℕ) → i < length (part b n (patch xs a ys)) → i < n
      small i h = let k = simp length-take at h in omega arith

      out : (i : ℕ) → i < n → (b + i < a) ⊎ (a + length ys ≤ b + i)
      out i k = ⊎_elim (λ h. inl (omega arith)) (λ h. inr (omega arith)) apart

  -- a part inside is that part of the patch
  pub part_inside : (b n : ℕ) → b + n ≤ length ys → part (a + b) n (patch xs a ys) ≡ part b n ys
  part_inside b n h =
      ext_get_or 0 (part (a + b) n (patch xs a ys)) (part b n ys) lens
      (λ i k. let g : i < n = small i k in
      get_or-take n (drop (a + b) (patch xs a ys)) i 0 g ∙ get_or-drop (a + b) (patch xs a ys) i 0
      ∙ rw (add_assoc a b i) (at_in (b + i) (omega arith)) ∙ sym (get_or-take n (drop b ys) i 0 g ∙ get_or-drop b ys i 0))
    where
      lens : length (part (a + b) n (patch xs a ys)) ≡ length (part b n ys)
      lens = simp (length-take, length-drop, length_patch xs a ys fits) (omega arith)

      small : (i : ℕ) → i < length (part (a + b) n (patch xs a ys)) → i < n
      small i k = let g = simp length-take at k in omega arith

  -- the whole patch
  pub part_same : part a (length ys) (patch xs a ys) ≡ ys
  unfolding patch
  part_same = ap (λ (l : List ℕ). take (length ys) l) (drop_at (take a xs) _ a front) ∙ take_at ys _ (length ys) refl

  -- a second patch, right behind the first, makes one of the two
  pub patch_join : (b : ℕ) (zs : List ℕ) → b ≡ a + length ys → patch (patch xs a ys) b zs ≡ patch xs a (ys ++ zs)
  unfolding patch
  patch_join b zs e =
      let p : List ℕ = take a xs in
      let r : List ℕ = drop (length ys) (drop a xs) in
      let lp : length (p ++ ys) ≡ b = length-append p ys ∙ ap (λ (n : ℕ). n + length ys) front ∙ sym e in
      let whole : p ++ (ys ++ r) ≡ (p ++ ys) ++ r = sym (append_assoc p ys r) in
      let rest : drop (length zs) r ≡ drop (length (ys ++ zs)) (drop a xs) =
      drop-drop (length zs) (length ys) (drop a xs) ∙ ap (λ (n : ℕ). drop n (drop a xs)) (sym (length-append ys zs)) in
      ap (λ (l : List ℕ). take b l ++ (zs ++ drop (length zs) (drop b l))) whole
      ∙ ap (λ (l : List ℕ). l ++ (zs ++ drop (length zs) (drop b ((p ++ ys) ++ r)))) (take_at (p ++ ys) r b lp)
      ∙ ap (λ (l : List ℕ). (p ++ ys) ++ (zs ++ drop (length zs) l)) (drop_at (p ++ ys) r b lp)
      ∙ ap (λ (l : List ℕ). (p ++ ys) ++ (zs ++ l)) rest
      ∙ append_assoc p ys (zs ++ drop (length (ys ++ zs)) (drop a xs))
      ∙ ap (λ (l : List ℕ). p ++ l) (sym (append_assoc ys zs (drop (length (ys ++ zs)) (drop a xs))))

-- a second patch over the first, as long as it
pub patch_over : (xs : List ℕ) (a : ℕ) (ys zs : List ℕ) → length ys ≡ length zs → a + length ys ≤ length xs
    → patch (patch xs a ys) a zs ≡ patch xs a zs
unfolding patch
patch_over xs a ys zs e fits =
    let p : List ℕ = take a xs in
    let r : List ℕ = drop (length ys) (drop a xs) in
    let lp : length p ≡ a = length-take-le a xs (omega arith) in
    let rest : drop (length zs) (ys ++ r) ≡ drop (length zs) (drop a xs) =
    drop_at ys r (length zs) e ∙ ap (λ (n : ℕ). drop n (drop a xs)) e in
    ap₂ (λ (x y : List ℕ). x ++ (zs ++ y)) (take_at p (ys ++ r) a lp) (ap (drop (length zs)) (drop_at p (ys ++ r) a lp) ∙ rest)

-- two patches apart, in either order
module _ (xs : List ℕ) (a : ℕ) (ys : List ℕ) (b : ℕ) (zs : List ℕ) (apart : a + length ys ≤ b) (fits : b + length zs ≤ length xs) where
  first_fits : a + length ys ≤ length xs
  first_fits = omega arith

  second_fits : b + length zs ≤ length (patch xs a ys)
  second_fits = rw (length_patch xs a ys first_fits) fits

  swapped_fits : a + length ys ≤ length (patch xs b zs)
  swapped_fits = rw (length_patch xs b zs fits) first_fits

  -- the byte at i: below the first, in it, between them, in the second, above it
  byte_same : (i : ℕ) (p q r s : Bool) → ltb i a ≡ p → ltb i (a + length ys) ≡ q → ltb i b ≡ r → ltb i (b + length zs) ≡ s
      → get_or (patch (patch xs a ys) b zs) i 0 ≡ get_or (patch (patch xs b zs) a ys) i 0
  byte_same i true q r s ep eq er es =
      let h = ltb-true i a ep in
      at_outside (patch xs a ys) b zs second_fits i (inl (omega arith)) ∙ at_outside xs a ys first_fits i (inl h)
      ∙ sym (at_outside (patch xs b zs) a ys swapped_fits i (inl h) ∙ at_outside xs b zs fits i (inl (omega arith)))
  byte_same i false true r s ep eq er es =
      let h : a ≤ i = ltb-false i a ep in
      let k : i < a + length ys = ltb-true i (a + length ys) eq in
      let e : a + (i - a) ≡ i = omega arith in
      at_outside (patch xs a ys) b zs second_fits i (inl (omega arith)) ∙ rw e at (at_inside xs a ys first_fits (i - a) (omega arith))
      ∙ sym (rw e at (at_inside (patch xs b zs) a ys swapped_fits (i - a) (omega arith)))
  byte_same i false false true s ep eq er es =
      let h : a + length ys ≤ i = ltb-false i (a + length ys) eq in
      let k : i < b = ltb-true i b er in
      at_outside (patch xs a ys) b zs second_fits i (inl k) ∙ at_outside xs a ys first_fits i (inr h)
      ∙ sym (at_outside (patch xs b zs) a ys swapped_fits i (inr h) ∙ at_outside xs b zs fits i (inl k))
  byte_same i false false false true ep eq er es =
      let h : b ≤ i = ltb-false i b er in
      let k : i < b + length zs = ltb-true i (b + length zs) es in
      let e : b + (i - b) ≡ i = omega arith in
      rw e at (at_inside (patch xs a ys) b zs second_fits (i - b) (omega arith))
      ∙ sym (at_outside (patch xs b zs) a ys swapped_fits i (inr (omega arith)) ∙ rw e at (at_inside xs b zs fits (i - b) (omega arith)))
  byte_same i false false false false ep eq er es =
      let h : b + length zs ≤ i = ltb-false i (b + length zs) es in
      at_outside (patch xs a ys) b zs second_fits i (inr h) ∙ at_outside xs a ys first_fits i (inr (omega arith))
      ∙ sym (at_outside (patch xs b zs) a ys swapped_fits i (inr (omega arith)) ∙ at_outside xs b zs fits i (inr h))

  pub patch_swap : patch (patch xs a ys) b zs ≡ patch (patch xs b zs) a ys
  patch_swap =
      ext_get_or 0 (patch (patch xs a ys) b zs) (patch (patch xs b zs) a ys)
      (length_patch (patch xs a ys) b zs second_fits ∙ length_patch xs a ys first_fits
      ∙ sym (length_patch (patch xs b zs) a ys swapped_fits ∙ length_patch xs b zs fits))
      (λ i h. byte_same i (ltb i a) (ltb i (a + length ys)) (ltb i b) (ltb i (b + length zs)) refl refl refl refl)

-- ---- tables of records of 512 bytes

module _ (t : List ℕ) (i : ℕ) (r : List ℕ) (full : length r ≡ 512) (fits : i * 512 + 512 ≤ length t) where
  enough : i * 512 + length r ≤ length t
  enough = rw full fits

  -- a record that is put at place i stands there
  pub record_here : part (i * 512) 512 (patch t (i * 512) r) ≡ r
  record_here = ap (λ (n : ℕ). part (i * 512) n (patch t (i * 512) r)) (sym full) ∙ part_same t (i * 512) r enough

  apart : (j : ℕ) → (i ≡ j → ⊥) → (b c : Bool) → ltb j i ≡ b → ltb i j ≡ c → (j * 512 + 512 ≤ i * 512) ⊎ (i * 512 + length r ≤ j * 512)
  apart j ne true c e f = let h : j < i = ltb-true j i e in inl (omega arith)
  apart j ne false true e f = let h : i < j = ltb-true i j f in inr (omega arith)
  apart j ne false false e f =
      let h : i ≤ j = ltb-false j i e in
      let k : j ≤ i = ltb-false i j f in
      absurd (ne (omega arith))

  -- and every other record is as it was
  pub record_other : (j : ℕ) → (i ≡ j → ⊥) → part (j * 512) 512 (patch t (i * 512) r) ≡ part (j * 512) 512 t
  record_other j ne = part_outside t (i * 512) r enough (j * 512) 512 (apart j ne (ltb j i) (ltb i j) refl refl)

  pub record_length : length (patch t (i * 512) r) ≡ length t
  record_length = length_patch t (i * 512) r enough

  -- two records at different places, in either order
  pub record_swap : (j : ℕ) (q : List ℕ) → (i ≡ j → ⊥) → length q ≡ 512 → j * 512 + 512 ≤ length t
      → patch (patch t (i * 512) r) (j * 512) q ≡ patch (patch t (j * 512) q) (i * 512) r
  record_swap j q ne long room = by_place (ltb i j) refl
    where
      by_place : (b : Bool) → ltb i j ≡ b → patch (patch t (i * 512) r) (j * 512) q ≡ patch (patch t (j * 512) q) (i * 512) r
      by_place true e =
          let h : i < j = ltb-true i j e in
          patch_swap t (i * 512) r (j * 512) q (omega arith) (omega arith)
      by_place false e =
          let h : j ≤ i = ltb-false i j e in
          let k : j < i = lower h in
          sym (patch_swap t (j * 512) q (i * 512) r (omega arith) (omega arith))
        where
          lower : j ≤ i → j < i
          lower h = by_same (eqb i j) refl
            where
              by_same : (c : Bool) → eqb i j ≡ c → j < i
              by_same true f = absurd (ne (eqb-true i j f))
              by_same false f = let n = eqb-false i j f in omega arith
