-- Each arm does what its page says, with what the list says; a page of no arm leaves the key set as it was.
use Rattle.pages.specs.Effects.{new_keys}
use Rattle.pages.proofs.FrontLaws.{key_said, exchange_said}
use Rattle.pages.proofs.effects.set_keys.Goals as goal

pub returns-in-Ok-Key : goal.returns-in-Ok-Key
returns-in-Ok-Key c =
    let s = rw c.in-Ok-Key.field-0-is at c.in-Ok-Key.ensures.says in
    record { set = key_said _ _ _ _ _ c.requires.0 _ s.0 s.1 s.2 c.set_key.ensures; whole = c.set_key.array_long }

pub returns-in-Ok-Exchange : goal.returns-in-Ok-Exchange
returns-in-Ok-Exchange c =
    let s = rw c.in-Ok-Exchange.field-0-is at c.in-Ok-Exchange.ensures.says in
    record { set = exchange_said _ _ _ _ _ c.requires.0 s.0 s.1 c.exchange.ensures; whole = c.exchange.array_long }

pub returns-in-Ok-Change : goal.returns-in-Ok-Change
unfolding new_keys
returns-in-Ok-Change c =
    let s = rw c.in-Ok-Change.field-0-is at c.in-Ok-Change.ensures.says in
    record { set = rw s c.change.ensures; whole = c.change.array_long }

pub returns-in-Ok-Attributes : goal.returns-in-Ok-Attributes
unfolding new_keys
returns-in-Ok-Attributes c =
    let s = rw c.in-Ok-Attributes.field-0-is at c.in-Ok-Attributes.ensures.says in
    record { set = rw s.0; whole = c.told-keys }
