-- Laws of the check: a sealed record has it, sealing leaves bytes 0-491 as they were, and they and the check are the whole record.
use Rattle.std.specs.Prelude.{◌≡◌, true, List, ◌++◌, ℕ, ◌+◌, ◌≤◌, length, take, drop}
use Rattle.std.proofs.Common.{◌∙◌, sym, inl, arith, length-drop, take-append-drop, take_all}
use Rattle.std.proofs.Math.Path.{ap, ap₂}
use Rattle.wire.specs.Bytes.{same, part, number, zeros, patch}
use Rattle.wire.proofs.SameLaws.{same_refl, same_true}
use Rattle.wire.proofs.PatchLaws.{length_patch, part_outside, part_same}
use Rattle.wire.proofs.NumberLaws.{number_outside}
use Rattle.wire.proofs.ZeroLaws.{zeros_outside}
use Rattle.fips180.specs.Sha1.{sha1}
use Rattle.fips180.proofs.Sha1Laws.{sha1_length}
use Rattle.seal.specs.Seal.{checked, seal}

module _ (l : List ℕ) (full : length l ≡ 512) where
  fits : 492 + length (sha1 (take 492 l)) ≤ length l
  fits = rw (sha1_length (take 492 l), full) (omega arith)

  pub seal_length : length (seal l) ≡ 512
  unfolding seal
  seal_length = length_patch l 492 (sha1 (take 492 l)) fits ∙ full

  -- what stands below the check
  pub seal_part : (a n : ℕ) → a + n ≤ 492 → part a n (seal l) ≡ part a n l
  unfolding seal
  seal_part a n h = part_outside l 492 (sha1 (take 492 l)) fits a n (inl h)

  pub seal_number : (n a : ℕ) → a + n ≤ 492 → number n a (seal l) ≡ number n a l
  unfolding seal
  seal_number n a h = number_outside l 492 (sha1 (take 492 l)) fits n a (inl h)

  pub seal_zeros : (n a : ℕ) → a + n ≤ 492 → zeros n a l ≡ true → zeros n a (seal l) ≡ true
  unfolding seal
  seal_zeros n a h z = zeros_outside l 492 (sha1 (take 492 l)) fits n a (inl h) z

  seal_front : take 492 (seal l) ≡ take 492 l
  seal_front = seal_part 0 492 (omega arith)

  seal_check : part 492 20 (seal l) ≡ sha1 (take 492 l)
  unfolding seal
  seal_check =
      ap (λ (n : ℕ). part 492 n (patch l 492 (sha1 (take 492 l)))) (sym (sha1_length (take 492 l))) ∙ part_same l 492 (sha1 (take 492 l)) fits

  pub seal_checked : checked (seal l) ≡ true
  unfolding checked
  seal_checked = ap₂ same (seal_check) (ap sha1 seal_front) ∙ same_refl (sha1 (take 492 l))

-- two records that have their check are the same where bytes 0-491 are
pub checked_same : (l m : List ℕ) → length l ≡ 512 → length m ≡ 512 → checked l ≡ true → checked m ≡ true → take 492 l ≡ take 492 m → l ≡ m
unfolding checked
checked_same l m hl hm kl km e =
    sym (take-append-drop 492 l) ∙ ap₂ (λ (x y : List ℕ). x ++ y) e (back l hl kl ∙ ap sha1 e ∙ sym (back m hm km)) ∙ take-append-drop 492 m
  where
    back : (x : List ℕ) → length x ≡ 512 → same (part 492 20 x) (sha1 (take 492 x)) ≡ true → drop 492 x ≡ sha1 (take 492 x)
    back x h k = sym (take_all 20 (drop 492 x) (rw length-drop (omega arith))) ∙ same_true (part 492 20 x) (sha1 (take 492 x)) k

-- a record written in a table, over the first bytes of what lies behind a
pub record_put : (table rec front back : List ℕ) (a : ℕ) → front ≡ take a table → back ≡ drop a table → length rec ≡ 512
    → front ++ (rec ++ drop 512 back) ≡ patch table a rec
unfolding patch
record_put table rec front back a ef eb whole = rw (ef, eb, whole)
