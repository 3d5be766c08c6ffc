-- One patch, of the record of an open slot.
use mathlib.Core.Path.{◌∙◌, ap, ap₂}
use Prim.Native.Nat.{ℕ, ◌*◌}
use mathlib.Core.List.{List}
use lib.ListN.{length}
use Rattle.wire.specs.Bytes.{patch}
use Rattle.seal.specs.SealLaws.{record_put}
use Rattle.slots.specs.Slot.{parked}
use Rattle.slots.proofs.RoundLaws.{open_length}
use Rattle.slots.proofs.park.Goals as goal

pub returns : goal.returns
unfolding parked
returns c =
    let whole = open_length c.args.unit.0 c.args.command.now c.args.token.now c.requires.0 c.requires.1 in
    record_put c.args.slots.now _ _ _ _ c.split_at_mut-rest.ensures.front c.split_at_mut-rest.ensures.back
    (ap length c.write_open.ensures ∙ whole)
    ∙ ap₂ (λ (i : ℕ) (x : List ℕ). patch c.args.slots.now (i * 512) x) c.no.ensures.same c.write_open.ensures
