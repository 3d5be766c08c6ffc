-- Slot records (document 01, "Records of 512 bytes", Slot): fields, soundness, an open one, and the slot table. docs/RULES.md, 2.4.
use Rattle.std.specs.Prelude.{Bool, true, false, List, ◌++◌, ℕ, zero, suc, ◌+◌, ◌*◌, ◌-◌, eqb, leb, length, get_or, Option, Some, None}
use Rattle.choice.specs.Choice.{both, pick}
use Rattle.wire.specs.Bytes.{part, number, bytes_of, zeros, patch}
use Rattle.seal.specs.Seal.{checked, seal, blank, blank_record}
use Rattle.model.specs.Codes.{data_out, legal_len}
use Rattle.slots.specs.declared.SlotState.{SlotState}
use Rattle.slots.specs.declared.SlotState.TheVariants.{Free, Open, Unsound}

-- 0-1 state; 2-3 unit; 4-5 command length; 6-7 token length; 8-107 command; 108-171 token
unfoldable pub state_number : List ℕ → ℕ
state_number l = number 2 0 l

unfoldable pub slot_unit : List ℕ → ℕ
slot_unit l = number 2 2 l

unfoldable pub command_length : List ℕ → ℕ
command_length l = number 2 4 l

unfoldable pub token_length : List ℕ → ℕ
token_length l = number 2 6 l

unfoldable pub slot_command : List ℕ → List ℕ
slot_command l = part 8 (command_length l) l

unfoldable pub slot_token : List ℕ → List ℕ
slot_token l = part 108 (token_length l) l

-- a token of 16 to 64 bytes
unfoldable pub right_token : ℕ → Bool
right_token n = both (leb 16 n) (leb n 64)

-- an open slot: state 1, unit 0-7, a token of 16 to 64 bytes, a data-out command of legal length, zeros past their lengths, unnamed zeros
unfoldable pub open_shape : List ℕ → Bool
open_shape l =
    both (eqb (state_number l) 1)
    (both (leb (slot_unit l) 7)
    (both (right_token (token_length l))
    (both (both (data_out (get_or l 8 0)) (legal_len (get_or l 8 0) (command_length l)))
    (both (zeros (100 - command_length l) (8 + command_length l) l)
    (both (zeros (64 - token_length l) (108 + token_length l) l)
    (zeros 320 172 l))))))

-- soundness is check, shape and zeros together
unfoldable pub slot_state_of : List ℕ → SlotState
slot_state_of l = pick (checked l) (pick (zeros 492 0 l) Free (pick (open_shape l) Open Unsound)) Unsound

-- the record of a slot that holds a command
unfoldable pub open_head : ℕ → ℕ → ℕ → List ℕ
open_head u n m = bytes_of 2 1 ++ (bytes_of 2 u ++ (bytes_of 2 n ++ bytes_of 2 m))

unfoldable pub open_record : ℕ → List ℕ → List ℕ → List ℕ
open_record u command token = seal (patch (patch (patch blank 0 (open_head u (length command) (length token))) 8 command) 108 token)

-- the record of slot i in the table
abbrev pub slot_at : ℕ → List ℕ → List ℕ
slot_at i slots = part (i * 512) 512 slots

abbrev pub is_free : SlotState → Bool
is_free Free = true
is_free Open = false
is_free Unsound = false

abbrev pub is_open : SlotState → Bool
is_open Free = false
is_open Open = true
is_open Unsound = false

-- the lowest sound free one of the n slots from i on
unfoldable pub free_from : ℕ → ℕ → List ℕ → Option ℕ
free_from zero i slots = None
free_from (suc n) i slots = pick (is_free (slot_state_of (slot_at i slots))) (Some i) (free_from n (i + 1) slots)

unfoldable pub lowest_free : List ℕ → Option ℕ
lowest_free slots = free_from 16 0 slots

-- the table with slot i parked, freed; and all sixteen freed
unfoldable pub parked : ℕ → ℕ → List ℕ → List ℕ → List ℕ → List ℕ
parked i u command token slots = patch slots (i * 512) (open_record u command token)

unfoldable pub freed : ℕ → List ℕ → List ℕ
freed i slots = patch slots (i * 512) blank_record

unfoldable pub freed_from : ℕ → ℕ → List ℕ → List ℕ
freed_from zero i slots = slots
freed_from (suc n) i slots = freed_from n (i + 1) (freed i slots)

unfoldable pub all_freed : List ℕ → List ℕ
all_freed slots = freed_from 16 0 slots
