-- A byte is in one of the three ranges, or outside them.
use mathlib.Core.Path.{◌∙◌, sym}
use mathlib.Core.Logic.{inl, inr}
use native.Mathlib.Omega.{arith}
use Rattle.text.proofs.HexLaws.{value_numeral, value_capital, value_letter, value_none}
use Rattle.text.proofs.hex.value.Goals as goal

pub returns-in-48-to-57 : goal.returns-in-48-to-57
returns-in-48-to-57 c = sym (value_numeral _ (omega arith) (omega arith))

pub returns-in-65-to-70 : goal.returns-in-65-to-70
returns-in-65-to-70 c = sym (value_capital _ (omega arith) (omega arith) ∙ omega arith)

pub returns-in-97-to-102 : goal.returns-in-97-to-102
returns-in-97-to-102 c = sym (value_letter _ (omega arith) (omega arith) ∙ omega arith)

pub returns-in_default : goal.returns-in_default
returns-in_default c = sym (value_none _ (inl (omega arith)) (inl (omega arith)) (inl (omega arith)))

pub returns-in_default-2 : goal.returns-in_default-2
returns-in_default-2 c = sym (value_none _ (inr (omega arith)) (inl (omega arith)) (inl (omega arith)))

pub returns-in_default-3 : goal.returns-in_default-3
returns-in_default-3 c = sym (value_none _ (inr (omega arith)) (inr (omega arith)) (inl (omega arith)))

pub returns-in_default-4 : goal.returns-in_default-4
returns-in_default-4 c = sym (value_none _ (inr (omega arith)) (inr (omega arith)) (inr (omega arith)))
