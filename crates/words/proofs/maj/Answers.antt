-- Fewer operations, bit by bit the same.
use Rattle.words.specs.BitLaws.{maj_choice}
use Rattle.words.proofs.maj.Goals as goal

pub returns : goal.returns
returns c = maj_choice c.args.x c.args.y c.args.z c.ranges.x.fits c.ranges.y.fits c.ranges.z.fits
