-- Sequences of calls: what a run of opens, closes, aborts and resets is, and the premise that runs start from. docs/RULES.md, 7.4.
use Rattle.std.specs.Prelude.{◌≡◌, Bool, true, false, List, [], ◌∷◌, ℕ, ◌<◌, length}
use Rattle.model.specs.declared.Answer.{Answer}
use Rattle.units.specs.Unit.{unit_state}
use Rattle.slots.specs.Slot.{slot_at, slot_state_of}
use Rattle.slots.specs.declared.SlotState.{SlotState}
use Rattle.slots.specs.declared.SlotState.TheVariants.{Free, Open, Unsound}
use Rattle.judge.specs.Judgement.{is_unsound}
use Rattle.calls.specs.Outcome.{leaves, Tables, lent, gives}
use Rattle.calls.specs.Slots.{abort_out, reset_out}
use Rattle.calls.specs.Whole.{Asked}
use Rattle.calls.specs.Open.{open_out}
use Rattle.calls.specs.Close.{close_out}

-- ---- the calls, with any arguments. All are lent the tables of the run; one that is lent a table of another length answers H1 and
-- leaves every byte (OneRun: `wrongly_lent`), and so is harmless. Each open and close brings its own reply buffer, of any length and
-- content

pub data Call : Type 0 where
  -- a command and a clock
  opens : Asked → ℕ → List ℕ → Call
  -- a slot, data and a clock
  closes : ℕ → List ℕ → ℕ → List ℕ → Call
  aborts : ℕ → Call
  resets : Call

abbrev pub is_opens : Call → Bool
is_opens (opens k clock reply) = true
is_opens (closes s d clock reply) = false
is_opens (aborts s) = false
is_opens resets = false

-- is it an open or a close?
abbrev pub is_command : Call → Bool
is_command (opens k clock reply) = true
is_command (closes s d clock reply) = true
is_command (aborts s) = false
is_command resets = false

-- a call as it was answered, with its reply buffer as it was left
pub record Event : Type 0 where
  pub call : Call
  pub answer : Answer
  pub reply : List ℕ

abbrev pub event : Call → Answer → List ℕ → Event
event k a r = record { call = k; answer = a; reply = r }

-- what a call promises, from tables t to tables n: the equation of its contract; abort and reset are lent the slots alone
abbrev pub Meets : Tables → Call → Answer → List ℕ → Tables → Type 0
Meets t (opens k clock reply) a r n = gives a (lent n r) ≡ open_out (lent t reply) k clock
Meets t (closes s d clock reply) a r n = gives a (lent n r) ≡ close_out (lent t reply) s d clock
Meets t (aborts s) a r n = (leaves a n.slots ≡ abort_out t.slots s) × (n.units ≡ t.units) × (r ≡ [])
Meets t resets a r n = (leaves a n.slots ≡ reset_out t.slots) × (n.units ≡ t.units) × (r ≡ [])

-- a run: every call kept its promise
abbrev pub Ran : Tables → List Event → Tables → Type 0
Ran t [] n = t ≡ n
Ran t (e ∷ es) n = (m : Tables) × Meets t e.call e.answer e.reply m × Ran m es n

-- ---- the premise: tables of their sizes, every unit record sound (used or unused), every slot sound (open or free)

abbrev pub SoundUnits : List ℕ → Type 0
SoundUnits units = (u : ℕ) → u < 8 → is_unsound (unit_state units u) ≡ false

abbrev pub is_damaged : SlotState → Bool
is_damaged Free = false
is_damaged Open = false
is_damaged Unsound = true

pub record SoundTables (t : Tables) : Type 0 where
  pub units_length : length t.units ≡ 4096
  pub slots_length : length t.slots ≡ 8192
  pub units_sound : SoundUnits t.units
  pub slots_sound : (i : ℕ) → i < 16 → is_damaged (slot_state_of (slot_at i t.slots)) ≡ false
