-- The machine's XOR is the standard's.
use Rattle.words.specs.BitLaws.{parity_is}
use Rattle.words.proofs.parity.Goals as goal

pub returns : goal.returns
returns c = parity_is c.args.x c.args.y c.args.z c.ranges.x.fits c.ranges.y.fits c.ranges.z.fits
