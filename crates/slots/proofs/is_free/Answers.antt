-- A slot is free exactly where it is the blank record.
use mathlib.Core.Path.{◌∙◌, sym}
use Rattle.slots.proofs.SlotLaws.{free_blank}
use Rattle.slots.proofs.is_free.Goals as goal

pub returns : goal.returns
returns c = c.is_blank.ensures ∙ sym (free_blank _ c.told-rec)
