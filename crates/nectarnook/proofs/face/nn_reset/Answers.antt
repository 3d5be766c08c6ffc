-- The call's outcome, packed.
use Rattle.nectarnook.proofs.PackedLaws.{one_packed}
use Rattle.nectarnook.proofs.face.nn_reset.Goals as goal

pub returns : goal.returns
returns c = one_packed _ c.reset.result _ _ c.pack.ensures c.reset.ensures
