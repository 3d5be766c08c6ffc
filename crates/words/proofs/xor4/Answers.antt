-- The machine's XOR is the standard's.
use Rattle.words.specs.BitLaws.{xor_four}
use Rattle.words.proofs.xor4.Goals as goal

pub returns : goal.returns
returns c = xor_four c.args.v c.args.x c.args.y c.ranges.v.fits c.ranges.x.fits c.ranges.y.fits c.args.z c.ranges.z.fits
