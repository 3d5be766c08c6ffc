-- The library's sum is the standard's.
use Rattle.std.proofs.Common.{refl}
use Rattle.words.specs.Words.{add32}
use Rattle.words.proofs.add.Goals as goal

pub returns : goal.returns
unfolding add32
returns c = refl
