-- The or of the bytes so far and the zeros that are left decide together; at the end none are left.
use Rattle.std.proofs.Common.{◌≡◌, ◌-◌, length}
use Rattle.std.specs.Prelude.{eqb}
use Rattle.choice.specs.Choice.{both}
use Rattle.wire.specs.Bytes.{zeros}
use Rattle.wire.proofs.are_zeros.Given as goal

abbrev pub invariant-loop-x : goal.invariant-loop-x
invariant-loop-x l =
    both (eqb l.any 0) (zeros (length l.x-items - l.x-index) l.x-index l.x-items) ≡ zeros (length l.x-items) 0 l.x-items
