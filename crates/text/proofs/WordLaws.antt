-- Laws of words: how a search for the next gap, or for what is none, goes on and ends.
use Rattle.std.specs.Prelude.{◌≡◌, refl, Bool, true, false, not, List, ℕ, ◌+◌, ◌-◌, ◌≤◌, ◌<◌, eqb, length, get_or, take}
use mathlib.Core.Bool.{beq}
use Rattle.std.proofs.Common.{◌∙◌, sym, ap, ⊎_elim, arith}
use borrow.Author.Tests.{eq-eqb, ne_eqb}
use Rattle.choice.specs.ChoiceLaws.{both_none}
use Rattle.text.specs.Words.{is_gap, First, unreturned}
use Rattle.text.proofs.HexLaws.{last_or_before}

-- what a test of two truths for equality says
pub same_truth : (a b : Bool) → beq a b ≡ true → a ≡ b
same_truth true true e = refl
same_truth true false e = sym e
same_truth false true e = e
same_truth false false e = refl

-- from `at` up to i the search has found nothing
abbrev pub Searched : Bool → ℕ → List ℕ → ℕ → Type 0
Searched gap at line i = (at ≤ i) × ((k : ℕ) → at ≤ k → k < i → is_gap (get_or line k 0) ≡ not gap)

pub search_starts : (gap : Bool) (at : ℕ) (line : List ℕ) → Searched gap at line at
search_starts gap at line = (omega arith, λ k h g. absurd (omega arith))

pub search_goes_on : (gap : Bool) (at : ℕ) (line : List ℕ) (i : ℕ) → Searched gap at line i → is_gap (get_or line i 0) ≡ not gap
    → Searched gap at line (i + 1)
search_goes_on gap at line i s e =
    let h = s.0 in
    (omega arith, λ k a g. ⊎_elim (λ b. s.1 k a b) (λ b. ap (λ (n : ℕ). is_gap (get_or line n 0)) b ∙ e) (last_or_before k i (omega arith)))

pub search_finds : (gap : Bool) (at : ℕ) (line : List ℕ) (i : ℕ) → Searched gap at line i → i < length line → is_gap (get_or line i 0) ≡ gap
    → First gap at line i
search_finds gap at line i s h e = let a = s.0 in (omega arith, (omega arith, (s.1, λ g. e)))

pub search_ends : (gap : Bool) (at : ℕ) (line : List ℕ) (i : ℕ) → Searched gap at line i → length line ≤ i → First gap at line (length line)
search_ends gap at line i s h = (omega arith, (omega arith, ((λ k a b. s.1 k a (omega arith)), λ g. absurd (omega arith))))

-- ---- the carriage return at a line's end

module _ (line : List ℕ) where
  pub return_empty : length line ≡ 0 → line ≡ unreturned line
  unfolding unreturned
  return_empty e = rw (eq-eqb (length line) 0 e)

  pub return_there : 0 < length line → get_or line (length line - 1) 0 ≡ 0x0d → take (length line - 1) line ≡ unreturned line
  unfolding unreturned
  return_there h e =
      rw (ne_eqb (length line) 0 (λ z. omega arith), eq-eqb (get_or line (length line - 1) 0) 0x0d e) refl

  pub return_none : (get_or line (length line - 1) 0 ≡ 0x0d → ⊥) → line ≡ unreturned line
  unfolding unreturned
  return_none n = rw (ne_eqb (get_or line (length line - 1) 0) 0x0d n, both_none (not (eqb (length line) 0)))
