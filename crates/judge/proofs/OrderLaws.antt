-- How checks that refuse by a reason follow one another: group behind group, each asked only where those before it pass.
use Rattle.std.proofs.Math.Path.{◌≡◌, refl}
use Rattle.std.specs.Prelude.{Bool, ℕ}
use Rattle.std.proofs.Math.Bool.{true}
use mathlib.Core.List.{List, ◌++◌}
use Rattle.model.specs.Reason.{number_of}
use Rattle.model.specs.declared.reason.Reason.{Reason}
use Rattle.model.specs.declared.Need.{Need}
use Rattle.units.specs.declared.UnitState.{UnitState}
use Rattle.judge.specs.Judgement.{Test, first, unit_tests, code_tests, form_tests, fact_tests}
use Rattle.judge.proofs.TestLaws.{named, second_asked, second_left}
use Rattle.model.proofs.ReasonLaws.{reason_named}

module _ (xs ys : List Test) (h : named xs ≡ true) where
  -- what the first group refuses for, both refuse for
  pub refused : (r : Reason) → number_of r ≡ first xs → number_of r ≡ first (xs ++ ys)
  refused r e = second_left xs ys h (number_of r) e (reason_named r)

  -- where it passes, the second answers
  pub passed : 0 ≡ first xs → (n : ℕ) → n ≡ first ys → n ≡ first (xs ++ ys)
  passed z n e = second_asked xs ys h 0 z refl n e

pub unit_named : (u : ℕ) (s : UnitState) → named (unit_tests u s) ≡ true
unfolding unit_tests
unit_named u s = refl

pub code_named : (c : List ℕ) → named (code_tests c) ≡ true
unfolding code_tests
code_named c = refl

pub form_named : (rules : Bool) (d : List ℕ) → named (form_tests rules d) ≡ true
unfolding form_tests
form_named rules d = refl

pub fact_named : (need : Need) (own d : List ℕ) (clock : ℕ) → named (fact_tests need own d clock) ≡ true
unfolding fact_tests
fact_named need own d clock = refl
