-- One patch, of what was made from bytes 0-491.
use Rattle.seal.specs.Seal.{seal}
use Rattle.seal.proofs.seal_record.Goals as goal

pub returns : goal.returns
unfolding seal
returns c = cc
