-- Call by call as the definition has it.
use Rattle.fips180.specs.Sha1.{plus}
use Rattle.fips180.proofs.block.sum.Goals as goal

pub returns : goal.returns
unfolding plus
returns c = cc
