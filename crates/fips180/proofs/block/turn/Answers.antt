-- Call by call as the definition has it.
use Rattle.fips180.specs.Sha1.{turned}
use Rattle.fips180.proofs.block.turn.Goals as goal

pub returns : goal.returns
unfolding turned
returns c = cc
