-- The stored check against the one made.
use mathlib.Core.Path.{◌∙◌, ap₂}
use Rattle.wire.specs.Bytes.{same}
use Rattle.seal.specs.Seal.{checked}
use Rattle.seal.proofs.is_checked.Goals as goal

pub returns : goal.returns
unfolding checked
returns c = c.same.ensures ∙ ap₂ same c.array.ensures c.check_of.ensures
