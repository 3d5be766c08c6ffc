-- The bytes so far are masked, and the others as they were.
use Rattle.std.proofs.Common.{◌≡◌, ◌++◌, take, drop}
use Rattle.hmac.specs.Hmac.{masked}
use Rattle.hmac.proofs.mask.Given as goal

abbrev pub invariant-loop-b : goal.invariant-loop-b
invariant-loop-b l = l.b-items ≡ masked l.pad (take l.b-index l.fn.block) ++ drop l.b-index l.fn.block
