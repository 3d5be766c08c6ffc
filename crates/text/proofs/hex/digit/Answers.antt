-- Below ten a numeral, from ten on a letter.
use native.Mathlib.Omega.{arith}
use Rattle.text.proofs.HexLaws.{digit_numeral, digit_letter}
use mathlib.Core.Path.{◌∙◌, sym}
use Rattle.text.proofs.hex.digit.Goals as goal

pub returns-then-x-lt10 : goal.returns-then-x-lt10
returns-then-x-lt10 c = sym (digit_numeral _ _ (omega arith) ∙ omega arith)

pub returns-else-x-lt10 : goal.returns-else-x-lt10
returns-else-x-lt10 c = sym (digit_letter _ _ (omega arith) ∙ omega arith)
