-- The call close (document 01): its answer and every lent byte that it leaves, for any input. H4 has no place: an open slot is sound only
-- with a data-out command. docs/RULES.md, 5.4.
use Rattle.std.specs.Prelude.{List, ℕ}
use Rattle.choice.specs.Choice.{pick}
use Rattle.model.specs.declared.Answer.TheVariants.{H1, H3}
use Rattle.slots.specs.Slot.{slot_at, slot_unit, slot_command, slot_token, freed}
use Rattle.calls.specs.Outcome.{Lent, Outcome, gives, with_slots, rightly_lent}
use Rattle.calls.specs.Slots.{holds}
use Rattle.calls.specs.Whole.{Asked, asked, whole}
use Rattle.calls.specs.Open.{answered}

-- the command that a slot's record holds
abbrev pub held_by : List ℕ → Asked
held_by rec = asked (slot_unit rec) (slot_command rec) (slot_token rec)

-- H1 before all, then H3; else the command that the slot holds is judged by 1 to 19 from the close's own clock, and its slot is free
unfoldable pub close_out : Lent → ℕ → List ℕ → ℕ → Outcome
close_out l s d clock =
    pick (rightly_lent l)
    (pick (holds l.tabled.slots s)
    (answered (with_slots (freed s l.tabled.slots) l) (whole l.tabled.units (held_by (slot_at s l.tabled.slots)) d clock))
    (gives H3 l))
    (gives H1 l)
