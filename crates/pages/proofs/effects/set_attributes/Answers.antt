-- Method, tag and the check, with what stands at the front of the list.
use Rattle.pages.specs.Effects.{attributes_set}
use Rattle.pages.proofs.effects.set_attributes.Goals as goal

pub returns : goal.returns
unfolding attributes_set
returns c =
    let a = c.read-attributes.ensures in
    let list = c.read.ensures.2 in
    record { set = simp (c.seal_record.ensures, c.set_tag.ensures, c.set_method.ensures, a.0, a.1, list); whole = c.seal_record.array_long }
