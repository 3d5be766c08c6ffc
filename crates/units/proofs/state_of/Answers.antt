-- The blank record is the unused one; shape and check make a used one.
use mathlib.Core.Path.{◌≡◌, sym, ◌∙◌}
use mathlib.Core.Bool.{true, false}
use native.Mathlib.Omega.{arith}
use Rattle.std.proofs.lemmas.Grind.{common_steps}
use Rattle.choice.specs.Choice.{both}
use Rattle.seal.specs.Seal.{checked}
use Rattle.units.specs.Unit.{used_shape}
use Rattle.units.proofs.UnitLaws.{state_unused, state_used, state_unsound}
use Rattle.units.proofs.state_of.Goals as goal
use Rattle.units.proofs.state_of.Goals.{else-used_shape-via-then-used_shape+else-is_checked, else-used_shape-via-else-used_shape}

pub returns-then-is_blank : goal.returns-then-is_blank
returns-then-is_blank c = state_unused c.args.place.0 c.args.rec.now c.told-rec (sym c.is_blank.ensures ∙ c.if-is_blank.true)

pub returns-then-is_checked : goal.returns-then-is_checked
returns-then-is_checked c =
    let sound : both (used_shape c.args.place.0 c.args.rec.now) (checked c.args.rec.now) ≡ true = grind (arith, common_steps) in
    state_used c.args.place.0 c.args.rec.now c.told-rec (sym c.is_blank.ensures ∙ c.if-is_blank.false) sound

pub returns : goal.returns
returns c =
    let unsound : both (used_shape c.args.place.0 c.args.rec.now) (checked c.args.rec.now) ≡ false =
    elim c.else-used_shape.branch [
      | else-used_shape-via-then-used_shape+else-is_checked w ↦ grind (arith, common_steps)
      | else-used_shape-via-else-used_shape w ↦ grind (arith, common_steps)
    ] in
    state_unsound c.args.place.0 c.args.rec.now c.told-rec (sym c.is_blank.ensures ∙ c.if-is_blank.false) unsound
