-- The two digits are those of the definition.
use Rattle.std.proofs.Common.{ℕ, [], ◌∷◌, ap₂}
use Rattle.text.specs.Hex.{two_digits}
use Rattle.text.proofs.hex.two_digits.Goals as goal

pub returns : goal.returns
unfolding two_digits
returns c = ap₂ (λ (x y : ℕ). x ∷ y ∷ []) c.digit-high.ensures c.digit-low.ensures
