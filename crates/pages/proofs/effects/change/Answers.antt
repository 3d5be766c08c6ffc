-- Setter by setter as the definition has it, and the check.
use Rattle.pages.proofs.StepLaws.{changed_steps}
use Rattle.pages.proofs.effects.change.Goals as goal

pub returns : goal.returns
returns c =
    changed_steps _ _ _ _ _ _ _ _ c.next_auth_key_of-auth.ensures c.next_gen_key_of-generation.ensures c.set_mask.ensures
    c.set_step.ensures c.set_pair.ensures c.clear_next_and_working.ensures c.seal_record.ensures
