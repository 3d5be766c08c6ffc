-- Which part of soundness fails first in a record (units/specs/Unit.antt and slots/specs/Slot.antt say what soundness is). Each part is
-- named where it fails and those before it hold; none where the record is sound.
use Rattle.std.specs.Prelude.{Bool, true, false, not, Option, Some, None, List, ℕ, zero, suc, ◌+◌, ◌*◌, ◌-◌, eqb, leb, get_or}
use Rattle.choice.specs.Choice.{both, either, pick}
use Rattle.wire.specs.Bytes.{zeros}
use Rattle.seal.specs.Seal.{checked}
use Rattle.model.specs.Codes.{data_out, legal_len}
use Rattle.units.specs.declared.UnitState.{UnitState}
use Rattle.units.specs.declared.UnitState.TheVariants.{Unused, Used, Unsound}
use Rattle.units.specs.Unit.{layout, unit_number, method, step, next_pair_zero, is_valid, unnamed_zero, unit_at, unit_state}
use Rattle.slots.specs.declared.SlotState.{SlotState}
use Rattle.slots.specs.declared.SlotState.TheVariants.{Free, Open, Unsound as UnsoundSlot}
use Rattle.slots.specs.Slot.{state_number, slot_unit, command_length, token_length, right_token, slot_state_of}
use Rattle.show.specs.declared.UnitPart.{UnitPart}
use Rattle.show.specs.declared.UnitPart.TheVariants.{Check, Layout, Place, Method, Step, NextPair, Key, Unnamed, Keeper}
use Rattle.show.specs.declared.SlotPart.{SlotPart}
use Rattle.show.specs.declared.SlotPart.TheVariants as Slot

-- ---- a unit's record

-- version v is not valid, and its key not zero
unfoldable pub key_wrong : ℕ → List ℕ → Bool
key_wrong v l = not (either (is_valid v l) (zeros 20 (112 + 20 * v) l))

-- the first such of the n versions from v on, or the one behind them
unfoldable pub wrong_key : ℕ → ℕ → List ℕ → ℕ
wrong_key zero v l = v
wrong_key (suc n) v l = pick (key_wrong v l) v (wrong_key n (v + 1) l)

-- next pair, key, unnamed bytes; where these hold too, it is the keeper that is wrong
unfoldable pub tail_part : List ℕ → UnitPart
tail_part l =
    pick (either (eqb (step l) 1) (next_pair_zero l))
    (pick (eqb (wrong_key 16 0 l) 16) (pick (unnamed_zero l) Keeper Unnamed) (Key (wrong_key 16 0 l)))
    NextPair

-- check, layout, place, method, step, and the rest
unfoldable pub record_part : ℕ → List ℕ → UnitPart
record_part u l =
    pick (checked l)
    (pick (eqb (layout l) 1)
    (pick (eqb (unit_number l) u) (pick (leb (method l) 1) (pick (leb (step l) 1) (tail_part l) Step) Method) Place)
    Layout)
    Check

abbrev pub is_unsound_unit : UnitState → Bool
is_unsound_unit Unused = false
is_unsound_unit Used = false
is_unsound_unit Unsound = true

-- of unit u in its table
unfoldable pub unit_part : List ℕ → ℕ → Option UnitPart
unit_part units u = pick (is_unsound_unit (unit_state units u)) (Some (record_part u (unit_at u units))) None

-- ---- a slot's record

-- past the command, past the token; where these hold too, it is an unnamed byte
unfoldable pub space_part : List ℕ → SlotPart
space_part l =
    pick (zeros (100 - command_length l) (8 + command_length l) l)
    (pick (zeros (64 - token_length l) (108 + token_length l) l) Slot.Unnamed Slot.PastToken)
    Slot.PastCommand

-- check, state, unit, token length, command, and the rest
unfoldable pub open_part : List ℕ → SlotPart
open_part l =
    pick (checked l)
    (pick (eqb (state_number l) 1)
    (pick (leb (slot_unit l) 7)
    (pick (right_token (token_length l))
    (pick (both (data_out (get_or l 8 0)) (legal_len (get_or l 8 0) (command_length l))) (space_part l) Slot.Command)
    Slot.TokenLength)
    Slot.Unit)
    Slot.State)
    Slot.Check

abbrev pub is_unsound_slot : SlotState → Bool
is_unsound_slot Free = false
is_unsound_slot Open = false
is_unsound_slot UnsoundSlot = true

unfoldable pub slot_part : List ℕ → Option SlotPart
slot_part l = pick (is_unsound_slot (slot_state_of l)) (Some (open_part l)) None
