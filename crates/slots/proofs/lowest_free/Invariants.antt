-- The search from i on is the whole search.
use mathlib.Core.Path.{◌≡◌}
use Prim.Native.Nat.{◌-◌}
use Rattle.slots.specs.Slot.{free_from, lowest_free}
use Rattle.slots.proofs.lowest_free.Given as goal

abbrev pub invariant-loop-i : goal.invariant-loop-i
invariant-loop-i l = free_from (16 - l.i) l.i l.slots ≡ lowest_free l.slots
