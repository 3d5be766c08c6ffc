-- What is left to free, done to the table so far, gives what all sixteen give.
use mathlib.Core.Path.{◌≡◌}
use Prim.Native.Nat.{◌-◌}
use Rattle.slots.specs.Slot.{freed_from, all_freed}
use Rattle.slots.proofs.free_all.Given as goal

abbrev pub invariant-loop-next : goal.invariant-loop-next
invariant-loop-next l = freed_from (16 - l.next) l.next l.slots ≡ all_freed l.initial.slots
