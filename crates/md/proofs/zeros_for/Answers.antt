-- The definition is arithmetic.
use Rattle.std.proofs.Common.{refl}
use Rattle.md.specs.Padding.{zeros_for}
use Rattle.md.proofs.zeros_for.Goals as goal

pub returns : goal.returns
unfolding zeros_for
returns c = refl
