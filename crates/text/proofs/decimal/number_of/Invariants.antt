-- What the digits so far say is at most the bound.
use Rattle.std.proofs.Common.{◌≡◌, ◌≤◌}
use Rattle.text.specs.Decimal.{decimal_of}
use Rattle.text.proofs.decimal.number_of.Given as goal

abbrev pub invariant-loop-c : goal.invariant-loop-c
invariant-loop-c l = (l.said ≡ decimal_of l.c-index l.word) × (l.said ≤ l.most)
