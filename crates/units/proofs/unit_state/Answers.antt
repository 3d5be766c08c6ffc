-- The record's own bytes, and the keeper's where its field names one.
use mathlib.Core.Path.{◌≡◌, sym, ◌∙◌}
use Prim.Native.Nat.{◌-◌}
use native.Mathlib.Omega.{arith}
use Rattle.std.proofs.lemmas.Grind.{common_steps}
use Rattle.units.specs.Unit.{keeper_field, unit_at, unit_state_of, keeps_keys}
use Rattle.units.proofs.UnitLaws.{is_used_lem, used_sound, state_own, state_unkept, state_kept}
use Rattle.units.proofs.unit_state.Goals as goal
use Rattle.units.proofs.unit_state.Goals.{then-field-eq0-via-then-field-eq0, then-field-eq0-via-else-field-eq0+then-not-is_used}

pub returns-then-field-eq0 : goal.returns-then-field-eq0
returns-then-field-eq0 c =
    let own : c.state_of-state.result ≡ unit_state_of c.args.unit (unit_at c.args.unit c.args.units.now) = grind (arith, common_steps) in
    let field : c.keeper_field_of-field.result ≡ keeper_field (unit_at c.args.unit c.args.units.now) = grind (arith, common_steps) in
    elim c.then-field-eq0.branch [
      | then-field-eq0-via-then-field-eq0 w ↦ state_own _ _ _ own _ field w.if-field-eq0.true
      | then-field-eq0-via-else-field-eq0+then-not-is_used w ↦ state_unkept _ _ _ own _ field _ w.is_used.ensures w.if-not-is_used.true
    ]

pub unwrap-requires : goal.unwrap-requires
unwrap-requires c =
    let own : c.state_of-state.result ≡ unit_state_of c.args.unit (unit_at c.args.unit c.args.units.now) = grind (arith, common_steps) in
    let field : c.keeper_field_of-field.result ≡ keeper_field (unit_at c.args.unit c.args.units.now) = grind (arith, common_steps) in
    let used = is_used_lem c.state_of-state.result (sym c.is_used.ensures ∙ c.if-not-is_used.false) in
    let small = (used_sound _ _ (sym own ∙ used)).field in
    c.new.ensures.there.1 (omega arith)

pub returns-then-keeps_keys : goal.returns-then-keeps_keys
returns-then-keeps_keys c =
    let own : c.state_of-state.result ≡ unit_state_of c.args.unit (unit_at c.args.unit c.args.units.now) = grind (arith, common_steps) in
    let field : c.keeper_field_of-field.result ≡ keeper_field (unit_at c.args.unit c.args.units.now) = grind (arith, common_steps) in
    let used = is_used_lem c.state_of-state.result (sym c.is_used.ensures ∙ c.if-not-is_used.false) in
    let keeper : c.keeps_keys.result ≡ keeps_keys c.args.units.now (c.keeper_field_of-field.result - 1) = grind (arith, common_steps) in
    rw c.if-keeps_keys.true at (state_kept _ _ _ own _ field used c.if-field-eq0.false _ keeper)

pub returns-else-keeps_keys : goal.returns-else-keeps_keys
returns-else-keeps_keys c =
    let own : c.state_of-state.result ≡ unit_state_of c.args.unit (unit_at c.args.unit c.args.units.now) = grind (arith, common_steps) in
    let field : c.keeper_field_of-field.result ≡ keeper_field (unit_at c.args.unit c.args.units.now) = grind (arith, common_steps) in
    let used = is_used_lem c.state_of-state.result (sym c.is_used.ensures ∙ c.if-not-is_used.false) in
    let keeper : c.keeps_keys.result ≡ keeps_keys c.args.units.now (c.keeper_field_of-field.result - 1) = grind (arith, common_steps) in
    rw c.if-keeps_keys.false at (state_kept _ _ _ own _ field used c.if-field-eq0.false _ keeper)
