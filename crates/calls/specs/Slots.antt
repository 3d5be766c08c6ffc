-- The calls abort and reset (document 01, "What a call gets and gives"): their answers and the slot table that they leave, for any
-- input. docs/RULES.md, 5.4.
use Rattle.std.specs.Prelude.{Bool, List, ℕ, eqb, leb, length}
use Rattle.choice.specs.Choice.{both, pick}
use Rattle.model.specs.declared.Answer.TheVariants.{Good, H1, H3}
use Rattle.slots.specs.Slot.{slot_state_of, slot_at, is_open, freed, all_freed}
use Rattle.calls.specs.Outcome.{TableOutcome, leaves}

-- does slot s hold a command? Not where it is above 15, free or unsound
unfoldable pub holds : List ℕ → ℕ → Bool
holds slots s = both (leb s 15) (is_open (slot_state_of (slot_at s slots)))

-- H1 for a table that is not 8,192 bytes long, then H3, else the slot is freed
unfoldable pub abort_out : List ℕ → ℕ → TableOutcome
abort_out slots s =
    pick (eqb (length slots) 8192)
    (pick (holds slots s) (leaves (Good 0) (freed s slots)) (leaves H3 slots))
    (leaves H1 slots)

-- H1, else every slot is free, unsound ones too
unfoldable pub reset_out : List ℕ → TableOutcome
reset_out slots = pick (eqb (length slots) 8192) (leaves (Good 0) (all_freed slots)) (leaves H1 slots)
