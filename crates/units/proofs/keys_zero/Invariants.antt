-- The keys of the versions so far are zero where the mask does not call them valid.
use mathlib.Core.Path.{◌≡◌}
use mathlib.Core.Bool.{true}
use Rattle.units.specs.Unit.{keys_zero, mask}
use Rattle.units.proofs.keys_zero.Given as goal

abbrev pub invariant-loop-v : goal.invariant-loop-v
invariant-loop-v l = (l.mask ≡ mask l.rec) × (keys_zero l.v l.rec ≡ true)
