-- The keys of the versions so far are zero where the mask does not call them valid.
use mathlib.Core.Path.{sym}
use native.Mathlib.Omega.{arith}
use Rattle.std.proofs.lemmas.Grind.{common_steps}
use Rattle.units.specs.Unit.{is_valid}
use Rattle.units.proofs.UnitLaws.{keys_zero_lem, keys_more, keys_stop}
use Rattle.units.proofs.keys_zero.Goals as goal
use Rattle.units.proofs.keys_zero.Goals.{else-not-valid-via-then-not-valid+else-not-are_zeros, else-not-valid-via-else-not-valid}

pub loop-v-init : goal.loop-v-init
loop-v-init c = (c.mask_of-mask.ensures, keys_zero_lem _)

pub returns-then-not-are_zeros : goal.returns-then-not-are_zeros
unfolding is_valid
returns-then-not-are_zeros c = sym (keys_stop 16 c.loop-v.v _ (omega arith) (grind (arith, common_steps)) (grind (arith, common_steps)))

pub loop-v-preserved : goal.loop-v-preserved
unfolding is_valid
loop-v-preserved c = (
  c.loop-v.invariant.0,
  elim c.else-not-valid.branch [
    | else-not-valid-via-then-not-valid+else-not-are_zeros w ↦ grind (arith, common_steps, keys_more)
    | else-not-valid-via-else-not-valid w ↦ grind (arith, common_steps, keys_more)
  ],
)
