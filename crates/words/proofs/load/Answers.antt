-- The library's word of four bytes is their number.
use Rattle.std.proofs.Common.{◌∙◌, add-zero, arith}
use Rattle.wire.specs.Bytes.{number}
use Rattle.words.proofs.load.Goals as goal

pub returns : goal.returns
unfolding number
returns c = c.from_be_bytes.ensures ∙ rw add-zero (omega arith)
