-- By the field of the unit's record.
use Rattle.std.proofs.lemmas.Grind.{common_steps}
use mathlib.Core.Path.{◌≡◌, sym, ap, ◌∙◌}
use Prim.Native.Nat.{ℕ, ◌-◌}
use native.Mathlib.Omega.{arith}
use Rattle.units.specs.Unit.{keeper_field, unit_at}
use Rattle.units.proofs.UnitLaws.{keeper_own, keeper_named, used_has, used_sound}
use Rattle.units.proofs.keeper_of.Goals as goal

pub returns-then-field-eq0 : goal.returns-then-field-eq0
returns-then-field-eq0 c =
    let field = c.keeper_field_of-field.ensures ∙ ap keeper_field c.record_of.ensures in
    sym (keeper_own c.args.units.now c.args.unit (sym field ∙ c.if-field-eq0.true))

pub unwrap-requires : goal.unwrap-requires
unwrap-requires c =
    let u = c.args.unit in
    let l = c.args.units.now in
    let field = c.keeper_field_of-field.ensures ∙ ap keeper_field c.record_of.ensures in
    let small = (used_sound u (unit_at u l) (used_has l u c.requires).0).field in
    c.new.ensures.there.1 (omega arith)

pub returns : goal.returns
returns c =
    let field = c.keeper_field_of-field.ensures ∙ ap keeper_field c.record_of.ensures in
    let named : c.unwrap.result ≡ c.keeper_field_of-field.result - 1 = grind (arith, common_steps) in
    named ∙ ap (λ (x : ℕ). x - 1) field
    ∙ sym (keeper_named c.args.units.now c.args.unit (λ z. c.if-field-eq0.false (field ∙ z)))
