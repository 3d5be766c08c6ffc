-- Unit records (document 01, "Records of 512 bytes", Unit; 02, K4): fields, soundness, and the unit table with the key set of each unit.
-- docs/RULES.md, 2.2, 2.3.
use Rattle.std.specs.Prelude.{Bool, true, false, List, ◌++◌, ℕ, zero, suc, ◌+◌, ◌-◌, ◌*◌, ◌/◌, ◌%◌, ◌^◌, eqb, leb, replicate}
use Rattle.choice.specs.Choice.{both, either, pick}
use Rattle.wire.specs.Bytes.{part, number, bytes_of, zeros, patch}
use Rattle.seal.specs.Seal.{checked}
use Rattle.units.specs.declared.UnitState.{UnitState}
use Rattle.units.specs.declared.UnitState.TheVariants.{Unused, Used, Unsound}

-- 0-1 layout, 1 used; 2-3 unit number; 4-5 method; 6-7 mask of valid working keys; 8-11 policy access tag; 12-15 step
unfoldable pub layout : List ℕ → ℕ
layout l = number 2 0 l

unfoldable pub unit_number : List ℕ → ℕ
unit_number l = number 2 2 l

unfoldable pub method : List ℕ → ℕ
method l = number 2 4 l

unfoldable pub mask : List ℕ → ℕ
mask l = number 2 6 l

unfoldable pub policy_tag : List ℕ → ℕ
policy_tag l = number 4 8 l

unfoldable pub step : List ℕ → ℕ
step l = number 4 12 l

-- 16-31 unit identifier; 32-51 authentication master key; 52-71 generation master key; 72-91 and 92-111 the next pair, same order
unfoldable pub identifier : List ℕ → List ℕ
identifier l = part 16 16 l

unfoldable pub auth_key_of : List ℕ → List ℕ
auth_key_of l = part 32 20 l

unfoldable pub gen_key_of : List ℕ → List ℕ
gen_key_of l = part 52 20 l

unfoldable pub next_auth_key : List ℕ → List ℕ
next_auth_key l = part 72 20 l

unfoldable pub next_gen_key : List ℕ → List ℕ
next_gen_key l = part 92 20 l

unfoldable pub next_pair_zero : List ℕ → Bool
next_pair_zero l = zeros 40 72 l

-- 112-431 sixteen working keys of 20 bytes; version v's bit of the mask says that its key is valid
unfoldable pub working_key : ℕ → List ℕ → List ℕ
working_key v l = part (112 + 20 * v) 20 l

unfoldable pub is_valid : ℕ → List ℕ → Bool
is_valid v l = eqb (mask l / 2 ^ v % 2) 1

-- 432-433 whose keys: zero for own keys, or one more than the number of the unit that keeps them
unfoldable pub keeper_field : List ℕ → ℕ
keeper_field l = number 2 432 l

-- ---- a record with another value in a field: all else is kept, the check too, which `seal` makes anew

abbrev pub with_method : ℕ → List ℕ → List ℕ
with_method m l = patch l 4 (bytes_of 2 m)

abbrev pub with_mask : ℕ → List ℕ → List ℕ
with_mask m l = patch l 6 (bytes_of 2 m)

abbrev pub with_tag : ℕ → List ℕ → List ℕ
with_tag t l = patch l 8 (bytes_of 4 t)

abbrev pub with_step : ℕ → List ℕ → List ℕ
with_step s l = patch l 12 (bytes_of 4 s)

abbrev pub with_pair : List ℕ → List ℕ → List ℕ → List ℕ
with_pair auth gen l = patch l 32 (auth ++ gen)

abbrev pub with_next_pair : List ℕ → List ℕ → List ℕ → List ℕ
with_next_pair auth gen l = patch l 72 (auth ++ gen)

abbrev pub with_working_key : ℕ → List ℕ → List ℕ → List ℕ
with_working_key v key l = patch l (112 + 20 * v) key

-- the next pair and the sixteen working keys zero
abbrev pub without_next_and_working : List ℕ → List ℕ
without_next_and_working l = patch l 72 (replicate 360 0)

-- ---- soundness

-- of the versions below n, each key that is not valid is zero
unfoldable pub keys_zero : ℕ → List ℕ → Bool
keys_zero zero l = true
keys_zero (suc v) l = both (keys_zero v l) (either (is_valid v l) (zeros 20 (112 + 20 * v) l))

-- a sharer's own mask, step and key bytes (32-431) are zero
unfoldable pub no_keys : List ℕ → Bool
no_keys l = both (eqb (mask l) 0) (both (eqb (step l) 0) (zeros 400 32 l))

-- own keys, or those of a unit of 0 to 7 and none here
unfoldable pub keeper_shape : List ℕ → Bool
keeper_shape l = either (eqb (keeper_field l) 0) (both (leb (keeper_field l) 8) (no_keys l))

-- the bytes that no field has: 434-491
unfoldable pub unnamed_zero : List ℕ → Bool
unnamed_zero l = zeros 58 434 l

-- a used record at the place u: number equal to its place, method 0 or 1, step 0 or 1, next pair zero at step 0, keys zero where not
-- valid, a field of 0 to 8 and no keys beside one that is not zero, unnamed bytes zero
unfoldable pub used_shape : ℕ → List ℕ → Bool
used_shape u l =
    both (eqb (layout l) 1)
    (both (eqb (unit_number l) u)
    (both (leb (method l) 1)
    (both (leb (step l) 1)
    (both (either (eqb (step l) 1) (next_pair_zero l))
    (both (keys_zero 16 l)
    (both (keeper_shape l) (unnamed_zero l)))))))

-- what a record is by its own bytes: soundness is check, shape and zeros together; an unused record is zero up to 491, at any place
unfoldable pub unit_state_of : ℕ → List ℕ → UnitState
unit_state_of u l = pick (checked l) (pick (zeros 492 0 l) Unused (pick (used_shape u l) Used Unsound)) Unsound

-- ---- the unit table: soundness and key lookup go by the table and the unit number

-- the record of unit u
abbrev pub unit_at : ℕ → List ℕ → List ℕ
unit_at u units = part (u * 512) 512 units

-- the unit that keeps unit u's keys, mask and step: itself, or the one that its field names
unfoldable pub keeper_of : List ℕ → ℕ → ℕ
keeper_of units u = pick (eqb (keeper_field (unit_at u units)) 0) u (keeper_field (unit_at u units) - 1)

-- unit u's key set: the record of its keeper
unfoldable pub key_set_of : List ℕ → ℕ → List ℕ
key_set_of units u = unit_at (keeper_of units u) units

abbrev pub is_used : UnitState → Bool
is_used Unused = false
is_used Used = true
is_used Unsound = false

-- may unit k keep keys? Its record is sound, used and with zero in the field
unfoldable pub keeps_keys : List ℕ → ℕ → Bool
keeps_keys units k = both (is_used (unit_state_of k (unit_at k units))) (eqb (keeper_field (unit_at k units)) 0)

-- a used record is sound where its keeper keeps keys; whether one is unused, its own bytes say
abbrev pub kept_state : Bool → UnitState → UnitState
kept_state kept Unused = Unused
kept_state kept Used = pick kept Used Unsound
kept_state kept Unsound = Unsound

unfoldable pub unit_state : List ℕ → ℕ → UnitState
unit_state units u = kept_state (keeps_keys units (keeper_of units u)) (unit_state_of u (unit_at u units))
