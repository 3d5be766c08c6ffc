-- Zeros, three patches and the check.
use Rattle.slots.proofs.SlotLaws.{open_steps}
use Rattle.slots.proofs.write_open.Goals as goal

pub returns : goal.returns
returns c =
    open_steps c.args.unit.0 c.args.command.now c.args.token.now _ _ _ _ _ _ _ c.open_head-head.ensures
    (c.fill.ensures.after (λ y h. h)) c.told-rec c.put.ensures c.put-2.ensures c.put-3.ensures c.seal_record.ensures
