-- The bytes so far are masked, and the others as they were.
use Rattle.std.proofs.Common.{arith}
use Rattle.hmac.proofs.KeyLaws.{masked_none, masked_more}
use Rattle.hmac.proofs.mask.Goals as goal

pub loop-b-init : goal.loop-b-init
loop-b-init c = masked_none _ _

pub loop-b-preserved : goal.loop-b-preserved
loop-b-preserved c = masked_more c.args.pad c.args.block _ c.loop-b.b-index (omega arith) c.loop-b.invariant
