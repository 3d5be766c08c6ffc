-- Fewer operations, bit by bit the same.
use Rattle.words.specs.BitLaws.{ch_choice}
use Rattle.words.proofs.ch.Goals as goal

pub returns : goal.returns
returns c = ch_choice c.args.x c.args.y c.args.z c.ranges.x.fits c.ranges.y.fits c.ranges.z.fits
