-- The two tests are those of the definition.
use Rattle.std.proofs.Common.{eq-eqb, ne_eqb, refl}
use Rattle.text.specs.Hex.{is_dash}
use Rattle.text.proofs.hex.is_dash.Goals as goal

pub returns-then-s-eq1 : goal.returns-then-s-eq1
unfolding is_dash
returns-then-s-eq1 c = rw (eq-eqb _ 1 c.if-s-eq1.true) refl

pub returns-else-s-eq1 : goal.returns-else-s-eq1
unfolding is_dash
returns-else-s-eq1 c = rw (ne_eqb _ 1 c.if-s-eq1.false) refl
