-- Setter by setter as the definition has it, and the check.
use Rattle.pages.proofs.StepLaws.{exchanged_steps}
use Rattle.pages.proofs.effects.exchange.Goals as goal

pub returns : goal.returns
returns c =
    let p = c.next_pair.ensures in
    exchanged_steps _ _ _ _ _ _ _ p.0 p.1 c.set_step.ensures c.set_next_pair.ensures c.seal_record.ensures
