-- What was found of the digits so far.
use Rattle.std.proofs.Common.{◌≡◌}
use Rattle.text.specs.Hex.{all_digits}
use Rattle.text.proofs.hex.all_digits.Given as goal

abbrev pub invariant-loop-c : goal.invariant-loop-c
invariant-loop-c l = l.all ≡ all_digits l.base l.c-index l.s
