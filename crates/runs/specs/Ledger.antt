-- What the history of calls alone tells of a run: which command is parked in which slot (the ledger), and which whole commands the run
-- amounts to. Neither reads a byte of a table but the ledger's start. docs/RULES.md, 7.2.
use Rattle.std.specs.Prelude.{◌≡◌, List, [], ◌∷◌, ◌++◌, ℕ, ◌+◌, ◌<◌, eqb, length, take}
use Rattle.std.proofs.Math.Option.{Option, none, some}
use Rattle.choice.specs.Choice.{pick}
use Rattle.wire.specs.Bytes.{patch}
use Rattle.model.specs.Answers.{is_a, is_final, count_in, slot_in}
use Rattle.model.specs.declared.Answer.{Answer}
use Rattle.slots.specs.Slot.{slot_at, slot_state_of}
use Rattle.slots.specs.declared.SlotState.{SlotState}
use Rattle.slots.specs.declared.SlotState.TheVariants.{Free, Open, Unsound}
use Rattle.calls.specs.Outcome.{Tables}
use Rattle.calls.specs.Whole.{Asked, whole}
use Rattle.calls.specs.Close.{held_by}
use Rattle.runs.specs.Run.{Call, opens, closes, aborts, resets, Event}
use Prim.{Unit}

-- ---- the ledger

abbrev pub Ledger : Type 0
Ledger = ℕ → Option Asked

abbrev pub put : Ledger → ℕ → Option Asked → Ledger
put ledger s x = λ i. pick (eqb i s) x (ledger i)

-- an open answered A1 puts its command into that slot, until its close, abort or a reset is answered A0, A2 or A3
abbrev pub after : Ledger → Call → Answer → Ledger
after ledger (opens k clock reply) a = pick (is_a 1 a) (put ledger (slot_in a) (some k)) ledger
after ledger (closes s d clock reply) a = pick (is_final a) (put ledger s none) ledger
after ledger (aborts s) a = pick (is_final a) (put ledger s none) ledger
after ledger resets a = pick (is_final a) (λ i. none) ledger

-- the calls that can end a command in slot i: its close, its abort, or a reset
abbrev pub Ends : Call → ℕ → Type 0
Ends (opens k clock reply) i = ⊥
Ends (closes s d clock reply) i = s ≡ i
Ends (aborts s) i = s ≡ i
Ends resets i = Unit

abbrev pub ledger_of : Ledger → List Event → Ledger
ledger_of ledger [] = ledger
ledger_of ledger (e ∷ es) = ledger_of (after ledger e.call e.answer) es

-- ---- what a slot holds, and where the ledger starts

pub data View : Type 0 where
  vacant : View
  held : Asked → View
  damaged : View

abbrev pub view_by : SlotState → List ℕ → View
view_by Free rec = vacant
view_by Open rec = held (held_by rec)
view_by Unsound rec = damaged

unfoldable pub view : List ℕ → View
view rec = view_by (slot_state_of rec) rec

abbrev pub to_view : Option Asked → View
to_view none = vacant
to_view (some k) = held k

abbrev pub of_view : View → Option Asked
of_view vacant = none
of_view (held k) = some k
of_view damaged = none

-- what the starting slots hold
abbrev pub starts : List ℕ → Ledger
starts slots = λ i. of_view (view (slot_at i slots))

-- the slot table is sound and agrees with the ledger
abbrev pub Agrees : List ℕ → Ledger → Type 0
Agrees slots ledger = (i : ℕ) → i < 16 → view (slot_at i slots) ≡ to_view (ledger i)

-- ---- the whole commands that a run amounts to

-- a command with its data and the clock of the step that answered it, its answer, and the reply bytes written at that step
pub record Done : Type 0 where
  pub what : Asked
  pub sent : List ℕ
  pub clock : ℕ
  pub answer : Answer
  pub written : List ℕ

abbrev pub done : Asked → List ℕ → ℕ → Answer → List ℕ → Done
done k d t a w = record { what = k; sent = d; clock = t; answer = a; written = w }

-- the command that a call is about: an open's own, a close's that of the ledger
abbrev pub command_of : Ledger → Call → Option Asked
command_of ledger (opens k clock reply) = some k
command_of ledger (closes s d clock reply) = ledger s
command_of ledger (aborts s) = none
command_of ledger resets = none

-- the data that it brings, none to an open, and its clock
abbrev pub sent_by : Call → List ℕ
sent_by (opens k clock reply) = []
sent_by (closes s d clock reply) = d
sent_by (aborts s) = []
sent_by resets = []

abbrev pub clock_of : Call → ℕ
clock_of (opens k clock reply) = clock
clock_of (closes s d clock reply) = clock
clock_of (aborts s) = 0
clock_of resets = 0

abbrev pub done_by : Option Asked → List ℕ → ℕ → Answer → List ℕ → List Done
done_by none d t a w = []
done_by (some k) d t a w = done k d t a w ∷ []

-- each A0, A2 or A3 to an open or close is one command
abbrev pub done_in : Ledger → Call → Answer → List ℕ → List Done
done_in ledger k a r = pick (is_final a) (done_by (command_of ledger k) (sent_by k) (clock_of k) a (take (count_in a) r)) []

abbrev pub dones : Ledger → List Event → List Done
dones ledger [] = []
dones ledger (e ∷ es) = done_in ledger e.call e.answer e.reply ++ dones (after ledger e.call e.answer) es

-- whole commands run singly, one after another, from the unit table us to the unit table ns: each has that answer and writes those bytes
abbrev pub Singly : List ℕ → List Done → List ℕ → Type 0
Singly us [] ns = us ≡ ns
Singly us (x ∷ xs) ns =
    ((whole us x.what x.sent x.clock).answer ≡ x.answer)
    × ((whole us x.what x.sent x.clock).written ≡ x.written)
    × Singly (whole us x.what x.sent x.clock).units xs ns

-- an open or close writes no more of its reply buffer than the count of its answer says, at the front; abort and reset have none
abbrev pub KeepsReply : Call → Answer → List ℕ → Type 0
KeepsReply (opens k clock reply) a r = r ≡ patch reply 0 (take (count_in a) r)
KeepsReply (closes s d clock reply) a r = r ≡ patch reply 0 (take (count_in a) r)
KeepsReply (aborts s) a r = r ≡ []
KeepsReply resets a r = r ≡ []

-- how many of the events are an A0, A2 or A3 to an open or close
abbrev pub final_in : Call → Answer → ℕ
final_in (opens k clock reply) a = pick (is_final a) 1 0
final_in (closes s d clock reply) a = pick (is_final a) 1 0
final_in (aborts s) a = 0
final_in resets a = 0

abbrev pub finals : List Event → ℕ
finals [] = 0
finals (e ∷ es) = final_in e.call e.answer + finals es

-- ---- the tables and the ledger

-- tables of their sizes, whose slots are sound and agree with the ledger
pub record Fits (t : Tables) (ledger : Ledger) : Type 0 where
  pub units_length : length t.units ≡ 4096
  pub slots_length : length t.slots ≡ 8192
  pub agrees : Agrees t.slots ledger
