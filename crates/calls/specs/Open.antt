-- The call open (document 01): its answer and every lent byte that it leaves, for any input. docs/RULES.md, 5.3.
use Rattle.std.specs.Prelude.{Bool, List, [], ℕ, eqb, length}
use Rattle.choice.specs.Choice.{both, pick}
use Rattle.wire.specs.Bytes.{patch}
use Rattle.model.specs.Codes.{data_out}
use Rattle.model.specs.declared.Answer.TheVariants.{Parked, Full, H1, H2}
use Rattle.slots.specs.Slot.{right_token, lowest_free, parked}
use Rattle.std.specs.Prelude.{Option, Some, None}
use Rattle.judge.specs.Command.{code_of}
use Rattle.judge.specs.Seen.{seen}
use Rattle.judge.specs.Judgement.{open_reason}
use Rattle.calls.specs.Outcome.{TableOutcome, leaves, Lent, lent, tables, Outcome, gives, on_slots, rightly_lent}
use Rattle.calls.specs.Whole.{Asked, judged, Whole, stored}

-- the reason that an open refuses for: it judges to 17
abbrev pub reason_at_open : List ℕ → Asked → ℕ → ℕ
reason_at_open units k clock = open_reason (seen units k.unit) k.command k.token clock

-- then it parks a data-out command
abbrev pub parks : List ℕ → Asked → ℕ → Bool
parks units k clock = both (eqb (reason_at_open units k clock) 0) (data_out (code_of k.command))

-- in the lowest sound free slot, or answers A4
abbrev pub parked_in : List ℕ → Asked → Option ℕ → TableOutcome
parked_in slots k (Some s) = leaves (Parked (record { 0 = s })) (parked s k.unit k.command k.token slots)
parked_in slots k None = leaves Full slots

-- any other command is answered at once; it has no data
abbrev pub answered_at_open : List ℕ → Asked → ℕ → Whole
answered_at_open units k clock = stored units k.unit (judged (seen units k.unit) k.command [] (reason_at_open units k clock))

-- what answering a command leaves: the unit table as it is then, and the written bytes at the reply's front
abbrev pub answered : Lent → Whole → Outcome
answered l w = gives w.answer (lent (tables w.units l.tabled.slots) (patch l.reply 0 w.written))

-- a command with the right lengths
unfoldable pub judged_out : Lent → Asked → ℕ → Outcome
judged_out l k clock =
    pick (parks l.tabled.units k clock)
    (on_slots l (parked_in l.tabled.slots k (lowest_free l.tabled.slots)))
    (answered l (answered_at_open l.tabled.units k clock))

-- H1 before all, then H2
unfoldable pub open_out : Lent → Asked → ℕ → Outcome
open_out l k clock =
    pick (rightly_lent l)
    (pick (right_token (length k.token)) (judged_out l k clock) (gives H2 l))
    (gives H1 l)
