-- The field, and then the record's own bytes.
use mathlib.Core.Path.{ap, ◌∙◌}
use borrow.Author.Tests.{ne_eqb}
use Rattle.units.specs.Unit.{unit_state_of}
use Rattle.units.proofs.UnitLaws.{keeps_own, keeps_none}
use Rattle.units.proofs.keeps_keys.Goals as goal

pub returns-then-keeper_field_of-eq0 : goal.returns-then-keeper_field_of-eq0
returns-then-keeper_field_of-eq0 c =
    keeps_own c.args.units.now c.args.unit _ _ c.record_of-rec.ensures c.keeper_field_of.ensures c.if-keeper_field_of-eq0.true
    _ (c.state_of.ensures ∙ ap (λ x. unit_state_of x c.record_of-rec.result.now) c.no.ensures.same) _ c.is_used.ensures

pub returns-else-keeper_field_of-eq0 : goal.returns-else-keeper_field_of-eq0
returns-else-keeper_field_of-eq0 c =
    rw (ne_eqb c.keeper_field_of.result 0 c.if-keeper_field_of-eq0.false)
    (keeps_none c.args.units.now c.args.unit _ _ c.record_of-rec.ensures c.keeper_field_of.ensures c.if-keeper_field_of-eq0.false)
