-- As many bytes as their length says, which end within the record.
use mathlib.Core.Path.{◌∙◌, ap}
use Prim.Native.Nat.{ℕ}
use native.Mathlib.Omega.{arith}
use Rattle.wire.specs.Bytes.{part}
use Rattle.wire.proofs.PatchLaws.{lent_part}
use Rattle.slots.specs.Slot.{slot_command, command_length}
use Rattle.slots.proofs.SlotLaws.{open_fits}
use Rattle.slots.proofs.command_of.Goals as goal

pub slice_bounds-result-end : goal.slice_bounds-result-end
unfolding command_length
slice_bounds-result-end c =
    omega (arith, c.number-n.ensures.value, (open_fits c.args.held.rec.now c.args.held.open).0)

pub returns : goal.returns
unfolding slot_command command_length
returns c =
    let l = c.args.held.rec.now in
    let k = c.number-n in
    lent_part l 8 k.result ∙ ap (λ (n : ℕ). part 8 n l) k.ensures.value
