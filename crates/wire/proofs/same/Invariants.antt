-- The or of the differences so far is zero exactly where the bytes so far are the same.
use Rattle.std.proofs.Common.{length}
use Rattle.wire.proofs.SameLaws.{Differs}
use Rattle.wire.proofs.same.Given as goal

abbrev pub invariant-loop-x : goal.invariant-loop-x
invariant-loop-x l = Differs l.s l.t (length l.yielded) l.different
