-- Zeros, one number right behind another.
use Rattle.seal.specs.BlankLaws.{blank_is}
use Rattle.units.proofs.RoundLaws.{numbers_steps}
use Rattle.units.proofs.fields.write_numbers.Goals as goal

pub returns : goal.returns
returns c =
    let g = c.args.build in
    numbers_steps g.unit.0 g.method g.tag _ _ _ _ _ _ _ (blank_is _ _ (c.fill.ensures.after (λ y h. h)) c.told-rec)
    (rw c.bytes_of.ensures at c.put.ensures) (rw c.bytes_of-2.ensures at c.put-2.ensures) c.set_method.ensures c.set_mask.ensures
    c.set_tag.ensures c.set_step.ensures
