-- Laws of records of 512 bytes: two that have the same bytes in a run of places, and what two patches and the check leave.
use Rattle.std.specs.Prelude.{◌≡◌, ◌⊎◌, Bool, true, false, List, eqb, ltb, length, get_or, take, drop}
use Rattle.std.proofs.Math.Path.{refl, ap₂}
use Rattle.std.proofs.Common.{sym, ◌∙◌, inl, inr, ⊎_elim, arith, length-take, length-drop, ext_get_or, get_or-take, get_or-drop, ltb-true, ltb-false}
use Prim.Native.Nat.{ℕ, zero, suc, ◌+◌, ◌-◌, ◌≤◌, ◌<◌}
use Rattle.std.proofs.Math.Nat.{add-zero}
use Rattle.choice.specs.Choice.{both}
use Rattle.wire.specs.Bytes.{part, number, zeros, patch}
use Rattle.wire.proofs.PatchLaws.{length_patch, at_outside, at_inside, part_inside}
use Rattle.wire.proofs.NumberLaws.{number_ext, number_inside}
use Rattle.fips180.specs.Sha1.{sha1}
use Rattle.fips180.proofs.Sha1Laws.{sha1_length}
use Rattle.seal.specs.Seal.{checked, seal}
use Rattle.seal.specs.SealLaws.{seal_length, seal_checked, seal_number, seal_part, checked_same}

-- ---- alike: the bytes from c up to d are the same

pub record Alike (c d : ℕ) (l m : List ℕ) : Type 0 where
  pub bytes : (i : ℕ) → c ≤ i → i < d → get_or l i 0 ≡ get_or m i 0

pub alike_trans : {c d : ℕ} {l m n : List ℕ} → Alike c d l m → Alike c d m n → Alike c d l n
alike_trans p q = record { bytes = λ i h k. p.bytes i h k ∙ q.bytes i h k }

module _ {c d : ℕ} {l m : List ℕ} (same : Alike c d l m) where
  pub narrow : {p q : ℕ} → c ≤ p → q ≤ d → Alike p q l m
  narrow h k = record { bytes = λ i g j. same.bytes i (omega arith) (omega arith) }

  pub alike_number : (n a : ℕ) → c ≤ a → a + n ≤ d → number n a l ≡ number n a m
  alike_number n a h k = number_ext n a a l m (λ i g. same.bytes (a + i) (omega arith) (omega arith))

  pub alike_zeros : (n a : ℕ) → c ≤ a → a + n ≤ d → zeros n a l ≡ zeros n a m
  unfolding zeros
  alike_zeros zero a h k = refl
  alike_zeros (suc n) a h k =
      ap₂ (λ (x : ℕ) (b : Bool). both (eqb x 0) b) (same.bytes a h (omega arith)) (alike_zeros n (a + 1) (omega arith) (omega arith))

  pub alike_part : length l ≡ 512 → length m ≡ 512 → (a n : ℕ) → c ≤ a → a + n ≤ d → part a n l ≡ part a n m
  alike_part el em a n h k =
      ext_get_or 0 (part a n l) (part a n m) (simp (length-take, length-drop, el, em))
      (λ i g. let j : i < n = small i g in
      get_or-take n (drop a l) i 0 j ∙ get_or-drop a l i 0 ∙ same.bytes (a + i) (omega arith) (omega arith) ∙ sym (get_or-take n (drop a m) i 0 j ∙ get_or-drop a m i 0))
    where
      small : (i : ℕ) → i < length (part a n l) → i < n
      small i g = let j = simp length-take at g in omega arith

-- outside a patch, and below the check
pub patch_alike : (xs : List ℕ) (a : ℕ) (ys : List ℕ) → a + length ys ≤ length xs → (c d : ℕ) → (d ≤ a) ⊎ (a + length ys ≤ c)
    → Alike c d (patch xs a ys) xs
patch_alike xs a ys fits c d apart =
    record { bytes = λ i h k. at_outside xs a ys fits i (⊎_elim (λ g. inl (omega arith)) (λ g. inr (omega arith)) apart) }

pub seal_alike : (l : List ℕ) → length l ≡ 512 → (c d : ℕ) → d ≤ 492 → Alike c d (seal l) l
unfolding seal
seal_alike l full c d h = patch_alike l 492 (sha1 (take 492 l)) (rw (sha1_length (take 492 l), full) (omega arith)) c d (inl h)

-- the same patch on both, and the check of records that are alike below it
pub alike_patch : {c d : ℕ} {l m : List ℕ} → length l ≡ 512 → length m ≡ 512 → Alike c d l m → (a : ℕ) (ys : List ℕ) → a + length ys ≤ 512
    → Alike c d (patch l a ys) (patch m a ys)
alike_patch {c} {d} {l} {m} el em same a ys fits = record { bytes = λ i h k. by_place i h k (ltb i a) (ltb i (a + length ys)) refl refl }
  where
    fl : a + length ys ≤ length l
    fl = rw el fits

    fm : a + length ys ≤ length m
    fm = rw em fits

    outside : (i : ℕ) → c ≤ i → i < d → (i < a) ⊎ (a + length ys ≤ i) → get_or (patch l a ys) i 0 ≡ get_or (patch m a ys) i 0
    outside i h k apart = at_outside l a ys fl i apart ∙ same.bytes i h k ∙ sym (at_outside m a ys fm i apart)

    by_place : (i : ℕ) → c ≤ i → i < d → (p q : Bool) → ltb i a ≡ p → ltb i (a + length ys) ≡ q
        → get_or (patch l a ys) i 0 ≡ get_or (patch m a ys) i 0
    by_place i h k true q ep eq = outside i h k (inl (ltb-true i a ep))
    by_place i h k false false ep eq = outside i h k (inr (ltb-false i (a + length ys) eq))
    by_place i h k false true ep eq =
        let g : a ≤ i = ltb-false i a ep in
        let j : i < a + length ys = ltb-true i (a + length ys) eq in
        let e : a + (i - a) ≡ i = omega arith in
        rw e at (at_inside l a ys fl (i - a) (omega arith)) ∙ sym (rw e at (at_inside m a ys fm (i - a) (omega arith)))

pub seal_same : (l m : List ℕ) → length l ≡ 512 → length m ≡ 512 → Alike 0 492 l m → seal l ≡ seal m
seal_same l m el em same =
    checked_same (seal l) (seal m) (seal_length l el) (seal_length m em) (seal_checked l el) (seal_checked m em)
    (seal_part l el 0 492 (omega arith) ∙ alike_part same el em 0 492 (omega arith) (omega arith) ∙ sym (seal_part m em 0 492 (omega arith)))

-- ---- two patches, one behind the other, and the check: n bytes from a on, and k from b on

pub record Twice (rec : List ℕ) (a n : ℕ) (ys : List ℕ) (b k : ℕ) (zs new : List ℕ) : Type 0 where
  pub full : length new ≡ 512
  pub sealed : checked new ≡ true
  pub below : Alike 0 a new rec
  pub between : Alike (a + n) b new rec
  pub above : Alike (b + k) 492 new rec
  pub first : number n a new ≡ number n 0 ys
  pub first_part : (i j : ℕ) → i + j ≤ n → part (a + i) j new ≡ part i j ys
  pub second : number k b new ≡ number k 0 zs
  pub second_part : (i j : ℕ) → i + j ≤ k → part (b + i) j new ≡ part i j zs

module _ (rec : List ℕ) (full : length rec ≡ 512) (a n : ℕ) (ys : List ℕ) (ly : length ys ≡ n) (b k : ℕ) (zs : List ℕ) (lz : length zs ≡ k)
    (hy : a + n ≤ b) (hz : b + k ≤ 492) where
  one : List ℕ
  one = patch rec a ys

  two : List ℕ
  two = patch one b zs

  fits_one : a + length ys ≤ length rec
  fits_one = omega arith

  length_one : length one ≡ 512
  unfolding one
  length_one = length_patch rec a ys fits_one ∙ full

  fits_two : b + length zs ≤ length one
  fits_two = rw length_one (omega arith)

  length_two : length two ≡ 512
  unfolding two
  length_two = length_patch one b zs fits_two ∙ length_one

  outside : (c d : ℕ) → d ≤ 492 → (d ≤ a) ⊎ (a + length ys ≤ c) → (d ≤ b) ⊎ (b + length zs ≤ c) → Alike c d (seal two) rec
  unfolding two one
  outside c d h p q =
      alike_trans (seal_alike two length_two c d h) (alike_trans (patch_alike one b zs fits_two c d q) (patch_alike rec a ys fits_one c d p))

  -- the second patch and the check leave the first
  behind : Alike a (a + n) (seal two) one
  unfolding two
  behind =
      alike_trans (seal_alike two length_two a (a + n) (omega arith)) (patch_alike one b zs fits_two a (a + n) (inl hy))

  pub twice_holds : Twice rec a n ys b k zs (seal (patch (patch rec a ys) b zs))
  unfolding two one
  twice_holds =
      record {
        full = seal_length two length_two;
        sealed = seal_checked two length_two;
        below = outside 0 a (omega arith) (inl (omega arith)) (inl (omega arith));
        between = outside (a + n) b (omega arith) (inr (omega arith)) (inl (omega arith));
        above = outside (b + k) 492 (omega arith) (inr (omega arith)) (inr (omega arith));
        first = alike_number behind n a (omega arith) (omega arith) ∙ rw add-zero at (number_inside rec a ys fits_one n 0 (omega arith));
        first_part = λ i j h.
            alike_part behind (seal_length two length_two) length_one (a + i) j (omega arith) (omega arith) ∙ part_inside rec a ys fits_one i j (omega arith);
        second = seal_number two length_two k b hz ∙ rw add-zero at (number_inside one b zs fits_two k 0 (omega arith));
        second_part = λ i j h. seal_part two length_two (b + i) j (omega arith) ∙ part_inside one b zs fits_two i j (omega arith);
      }
