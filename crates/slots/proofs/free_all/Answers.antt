-- What is left to free, done to the table so far, gives what all sixteen give.
use mathlib.Core.Path.{refl, ◌∙◌, sym}
use native.Mathlib.Omega.{arith}
use Rattle.std.proofs.lemmas.Grind.{common_steps}
use Rattle.slots.specs.Slot.{all_freed}
use Rattle.slots.proofs.TableLaws.{freed_more, freed_none}
use Rattle.slots.proofs.free_all.Goals as goal

pub loop-next-init : goal.loop-next-init
unfolding all_freed
loop-next-init c = refl

pub loop-next-preserved : goal.loop-next-preserved
loop-next-preserved c = grind (arith, common_steps, freed_more)

pub returns : goal.returns
returns c = sym (freed_none _ _ _ (omega arith)) ∙ c.loop-next.invariant
