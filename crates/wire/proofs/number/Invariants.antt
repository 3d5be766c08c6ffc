-- The number in the bytes so far, which fits as many bytes.
use Rattle.std.proofs.Common.{◌≡◌, ◌^◌, ◌<◌}
use Rattle.wire.specs.Bytes.{number}
use Rattle.wire.proofs.number.Given as goal

abbrev pub invariant-loop-i : goal.invariant-loop-i
invariant-loop-i g l = (l.value ≡ number l.i l.a l.s) × (l.value < 256 ^ l.i)
