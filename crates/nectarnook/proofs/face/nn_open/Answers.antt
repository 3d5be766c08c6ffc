-- The call's outcome, packed.
use Rattle.nectarnook.proofs.PackedLaws.{out_packed}
use Rattle.nectarnook.proofs.face.nn_open.Goals as goal

pub returns : goal.returns
returns c = out_packed _ c.open-made.result.answer _ _ c.pack.ensures c.open-made.ensures
