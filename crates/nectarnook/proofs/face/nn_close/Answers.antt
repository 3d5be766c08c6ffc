-- The call's outcome, packed.
use Rattle.nectarnook.proofs.PackedLaws.{out_packed}
use Rattle.nectarnook.proofs.face.nn_close.Goals as goal

pub returns : goal.returns
returns c = out_packed _ c.close-made.result.answer _ _ c.pack.ensures c.close-made.ensures
