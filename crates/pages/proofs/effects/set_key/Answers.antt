-- The mask with its bit, the key, and the check.
use Rattle.pages.proofs.StepLaws.{key_steps}
use Rattle.pages.proofs.effects.set_key.Goals as goal

pub returns : goal.returns
returns c =
    key_steps _ _ _ _ _ _ _ _ _ c.mask_of.ensures c.with_bit-mask.ensures c.made_key-key.ensures c.set_mask.ensures
    c.set_working_key.ensures c.seal_record.ensures
