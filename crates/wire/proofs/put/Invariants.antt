-- A copy of as many bytes as were passed.
use mathlib.Core.Path.{◌≡◌}
use lib.Seq.{paste}
use Rattle.wire.proofs.put.Given as goal

abbrev pub invariant-loop-i : goal.invariant-loop-i
invariant-loop-i l = l.d ≡ paste l.initial.d l.a l.s l.i
