-- One patch, of the blank record.
use mathlib.Core.Path.{◌∙◌, ap, ap₂}
use Prim.Native.Nat.{ℕ, ◌*◌}
use mathlib.Core.List.{List}
use lib.ListN.{length}
use Rattle.wire.specs.Bytes.{patch}
use Rattle.seal.specs.SealLaws.{record_put}
use Rattle.seal.specs.BlankLaws.{record_length}
use Rattle.slots.specs.Slot.{freed}
use Rattle.slots.proofs.free.Goals as goal

pub returns : goal.returns
unfolding freed
returns c =
    record_put c.args.slots.now _ _ _ _ c.split_at_mut-rest.ensures.front c.split_at_mut-rest.ensures.back
    (ap length c.make_blank.ensures ∙ record_length)
    ∙ ap₂ (λ (i : ℕ) (x : List ℕ). patch c.args.slots.now (i * 512) x) c.no.ensures.same c.make_blank.ensures
