-- The initial value has taken in nothing.
use Rattle.std.proofs.Common.{refl}
use Rattle.md.specs.Chain.{absorb}
use Rattle.fips180.specs.Sha1.{initial}
use Rattle.fips180.proofs.Running.new.Goals as goal

pub returns : goal.returns
unfolding initial absorb
returns c = record { count = refl; whole = refl; rest = refl }
