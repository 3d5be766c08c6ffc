-- The search from i on is the whole search.
use mathlib.Core.Path.{refl, ◌∙◌, sym}
use native.Mathlib.Omega.{arith}
use Rattle.std.proofs.lemmas.Grind.{common_steps}
use Rattle.slots.specs.Slot.{lowest_free}
use Rattle.slots.proofs.SearchLaws.{free_more, free_hit, free_none}
use Rattle.slots.proofs.lowest_free.Goals as goal

pub loop-i-init : goal.loop-i-init
unfolding lowest_free
loop-i-init c = refl

pub returns-then-is_free_at : goal.returns-then-is_free_at
returns-then-is_free_at c = grind (arith, common_steps, free_hit)

pub loop-i-preserved : goal.loop-i-preserved
loop-i-preserved c = grind (arith, common_steps, free_more)

pub returns : goal.returns
returns c = sym (free_none _ _ _ (omega arith)) ∙ c.loop-i.invariant
