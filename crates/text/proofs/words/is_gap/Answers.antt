-- The two tests are those of the definition.
use Rattle.std.proofs.Common.{eq-eqb, ne_eqb, refl}
use Rattle.text.specs.Words.{is_gap}
use Rattle.text.proofs.words.is_gap.Goals as goal

pub returns-then-c-eq32 : goal.returns-then-c-eq32
unfolding is_gap
returns-then-c-eq32 c = rw (eq-eqb c.args.c 0x20 c.if-c-eq32.true) refl

pub returns-else-c-eq32 : goal.returns-else-c-eq32
unfolding is_gap
returns-else-c-eq32 c = rw (ne_eqb c.args.c 0x20 c.if-c-eq32.false) refl
