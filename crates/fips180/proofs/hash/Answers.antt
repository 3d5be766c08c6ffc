-- Begun, fed once and finished.
use Rattle.std.proofs.Common.{[]}
use Rattle.fips180.proofs.hash.Goals as goal

pub returns : goal.returns
returns c = c.finish.ensures _ (c.feed.ensures [] c.new-r.ensures)
