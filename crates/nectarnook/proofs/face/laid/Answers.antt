-- Each value is below 256 and the count below 1,024, so no sum wraps.
use borrow.Author.Rules.{rules}
use Rattle.nectarnook.specs.Packed.{word}
use Rattle.nectarnook.proofs.face.laid.Goals as goal

pub returns : goal.returns
unfolding word
returns c = search rules
