-- The bit is set by an or; the shift keeps all of it.
use Rattle.pages.proofs.BitLaws.{bit_shifted, or_bit}
use Rattle.pages.proofs.effects.with_bit.Goals as goal

pub returns : goal.returns
returns c = rw (bit_shifted _ c.number.ensures.there, c.number.ensures.same) (or_bit _ _)
