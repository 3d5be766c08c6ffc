-- What each call of a run answers, from the unit table and the ledger alone: no byte of a slot is read. docs/RULES.md, 7.2.
use Rattle.std.specs.Prelude.{◌≡◌, Bool, true, false, List, [], ℕ, zero, suc, ◌+◌, ◌<◌, eqb, leb, length}
use Rattle.std.proofs.Math.Option.{Option, none, some}
use Rattle.choice.specs.Choice.{pick}
use Rattle.wire.specs.Bytes.{patch}
use Rattle.model.specs.Codes.{data_out}
use Rattle.model.specs.declared.Answer.{Answer}
use Rattle.model.specs.declared.Answer.TheVariants.{Good, Parked, Full, H1, H2, H3}
use Rattle.slots.specs.Slot.{right_token}
use Rattle.std.specs.Prelude.{Option as Maybe, Some, None}
use Rattle.calls.specs.Whole.{Asked, Whole, whole}
use Rattle.judge.specs.Command.{code_of}
use Rattle.calls.specs.Open.{reason_at_open, parks}
use Rattle.runs.specs.Run.{Call, opens, closes, aborts, resets}
use Rattle.runs.specs.Ledger.{Ledger}

-- an answer, and the reply buffer as it is left
pub record Expected : Type 0 where
  pub answer : Answer
  pub reply : List ℕ

abbrev pub says : Answer → List ℕ → Expected
says a r = record { answer = a; reply = r }

-- ---- slots by the ledger

abbrev pub is_vacant : Option Asked → Bool
is_vacant none = true
is_vacant (some k) = false

-- the least vacant one of the n slots from i on
unfoldable pub vacant_from : ℕ → ℕ → Ledger → Maybe ℕ
vacant_from zero i ledger = None
vacant_from (suc n) i ledger = pick (is_vacant (ledger i)) (Some i) (vacant_from n (i + 1) ledger)

unfoldable pub least_vacant : Ledger → Maybe ℕ
least_vacant ledger = vacant_from 16 0 ledger

-- what the ledger has in slot s, nothing above 15
abbrev pub entry_at : Ledger → ℕ → Option Asked
entry_at ledger s = pick (leb s 15) (ledger s) none

-- ---- the calls

-- a whole command's answer, with its bytes at the reply's front
abbrev pub of_whole : Whole → List ℕ → Expected
of_whole w reply = says w.answer (patch reply 0 w.written)

abbrev pub parked_at : Maybe ℕ → Answer
parked_at (Some s) = Parked (record { 0 = s })
parked_at None = Full

-- an open: H1 for a reply of the wrong length, else H2 for a token of the wrong length; a command that passes and carries data out gets
-- A1 with the least vacant slot, or A4 where none is; any other its whole command's answer and reply
unfoldable pub open_expected : List ℕ → Ledger → Asked → ℕ → List ℕ → Expected
open_expected units ledger k clock reply =
    pick (eqb (length reply) 512)
    (pick (right_token (length k.token))
    (pick (parks units k clock) (says (parked_at (least_vacant ledger)) reply)
    (of_whole (whole units k [] clock) reply))
    (says H2 reply))
    (says H1 reply)

-- a close: H1, else H3 where the ledger has nothing in the slot, else the answer of the whole command that it has there
abbrev pub closed_as : List ℕ → List ℕ → ℕ → List ℕ → Option Asked → Expected
closed_as units d clock reply none = says H3 reply
closed_as units d clock reply (some k) = of_whole (whole units k d clock) reply

unfoldable pub close_expected : List ℕ → Ledger → ℕ → List ℕ → ℕ → List ℕ → Expected
close_expected units ledger s d clock reply =
    pick (eqb (length reply) 512) (closed_as units d clock reply (entry_at ledger s)) (says H1 reply)

-- an abort: A0 where the ledger has a command in the slot, else H3; a reset: A0. Neither has a reply
abbrev pub aborted_as : Option Asked → Answer
aborted_as none = H3
aborted_as (some k) = Good 0

abbrev pub expected : List ℕ → Ledger → Call → Expected
expected units ledger (opens k clock reply) = open_expected units ledger k clock reply
expected units ledger (closes s d clock reply) = close_expected units ledger s d clock reply
expected units ledger (aborts s) = says (aborted_as (entry_at ledger s)) []
expected units ledger resets = says (Good 0) []

-- ---- task set full

-- the command passes: a reply of 512 bytes, a token of 16 to 64, no reason of 1 to 17, and it carries data out
pub record Passes (units : List ℕ) (k : Asked) (clock : ℕ) (reply : List ℕ) : Type 0 where
  pub reply_length : length reply ≡ 512
  pub token_length : right_token (length k.token) ≡ true
  pub none_refuses : reason_at_open units k clock ≡ 0
  pub data_out : data_out (code_of k.command) ≡ true

-- no slot is free, by the ledger
abbrev pub NoneFree : Ledger → Type 0
NoneFree ledger = (i : ℕ) → i < 16 → (k : Asked) × (ledger i ≡ some k)
