-- The call's outcome, packed.
use Rattle.nectarnook.proofs.PackedLaws.{one_packed}
use Rattle.nectarnook.proofs.face.nn_build.Goals as goal

pub returns : goal.returns
returns c = one_packed _ c.build.result _ _ c.pack.ensures c.build.ensures
