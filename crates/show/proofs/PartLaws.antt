-- Laws of the parts: how the lowest wrong key is searched for; the part that is named fails, and one is named exactly where the record is
-- unsound.
use Rattle.std.specs.Prelude.{◌≡◌, refl, Bool, false, Option, Some, None, List, eqb, leb, get_or}
use Rattle.std.proofs.Common.{◌∙◌, sym, eqb-true}
use Rattle.std.proofs.Math.Path.{ap}
use Rattle.std.proofs.Math.Bool.{true, not}
use Prim.Native.Nat.{ℕ, zero, suc, ◌+◌, ◌-◌, ◌<◌}
use native.Mathlib.Omega.{arith}
use Rattle.std.proofs.lemmas.Bool.{not-false, eqb-false}
use Rattle.choice.specs.Choice.{both, either, pick}
use Rattle.choice.specs.ChoiceLaws.{pick_cases}
use Rattle.wire.specs.Bytes.{zeros}
use Rattle.seal.specs.Seal.{checked}
use Rattle.model.specs.Codes.{data_out, legal_len}
use Rattle.units.specs.declared.UnitState.TheVariants.{Unused, Used, Unsound}
use Rattle.units.specs.Unit.{layout, unit_number, method, step, next_pair_zero, keys_zero, keeper_shape, unnamed_zero, used_shape}
use Rattle.units.specs.Unit.{unit_state_of, unit_at}
use Rattle.units.specs.Unit.{keeper_of, keeps_keys, kept_state, unit_state}
use Rattle.slots.specs.declared.SlotState.TheVariants.{Free, Open, Unsound as UnsoundSlot}
use Rattle.slots.specs.Slot.{state_number, slot_unit, command_length, token_length, right_token, open_shape, slot_state_of}
use Rattle.show.specs.declared.UnitPart.{UnitPart}
use Rattle.show.specs.declared.UnitPart.TheVariants.{Check, Layout, Place, Method, Step, NextPair, Key, Unnamed, Keeper}
use Rattle.show.specs.declared.SlotPart.{SlotPart}
use Rattle.show.specs.declared.SlotPart.TheVariants as Slot
use Rattle.show.specs.Parts.{key_wrong, wrong_key, tail_part, record_part, is_unsound_unit, unit_part, space_part, open_part, is_unsound_slot}
use Rattle.show.specs.Parts.{slot_part}

module _ (v : ℕ) (l : List ℕ) where
  pub wrong_found : v < 16 → key_wrong v l ≡ true → wrong_key (16 - v) v l ≡ v
  unfolding wrong_key
  wrong_found h e = let n : 16 - v ≡ suc (16 - (v + 1)) = omega arith in rw (n, e)

  pub wrong_further : v < 16 → key_wrong v l ≡ false → wrong_key (16 - v) v l ≡ wrong_key (16 - (v + 1)) (v + 1) l
  unfolding wrong_key
  wrong_further h e = let n : 16 - v ≡ suc (16 - (v + 1)) = omega arith in rw (n, e)

  pub wrong_none : v ≡ 16 → wrong_key (16 - v) v l ≡ 16
  unfolding wrong_key
  wrong_none e = rw e

-- a version that is not wrong is valid, or its key is zero
next_zero : (v : ℕ) (l : List ℕ) → keys_zero v l ≡ true → key_wrong v l ≡ false → keys_zero (v + 1) l ≡ true
unfolding keys_zero key_wrong
next_zero v l z f = let n : v + 1 ≡ suc v = omega arith in rw (n, z) (not-false _ f)

-- where the search finds none, each key that is not valid is zero
zero_further : (n v : ℕ) (l : List ℕ) → n + v ≡ 16 → keys_zero v l ≡ true → wrong_key n v l ≡ 16 → keys_zero 16 l ≡ true
unfolding wrong_key
zero_further zero v l e z w = ap (λ (k : ℕ). keys_zero k l) (sym w) ∙ z
zero_further (suc n) v l e z w = by_key (key_wrong v l) refl w (zero_further n (v + 1) l (omega arith))
  where
    by_key : (b : Bool) → key_wrong v l ≡ b → pick b v (wrong_key n (v + 1) l) ≡ 16
        → (keys_zero (v + 1) l ≡ true → wrong_key n (v + 1) l ≡ 16 → keys_zero 16 l ≡ true) → keys_zero 16 l ≡ true
    by_key true f g rest = absurd (omega arith)
    by_key false f g rest = rest (next_zero v l z f) g

pub none_zero : (l : List ℕ) → wrong_key 16 0 l ≡ 16 → keys_zero 16 l ≡ true
unfolding keys_zero
none_zero l w = zero_further 16 0 l refl refl w

-- where it finds one, that key is wrong
found_further : (n v : ℕ) (l : List ℕ) → n + v ≡ 16 → (wrong_key n v l ≡ 16 → ⊥) → key_wrong (wrong_key n v l) l ≡ true
unfolding wrong_key
found_further zero v l e w = absurd (w (omega arith))
found_further (suc n) v l e w = by_key (key_wrong v l) refl w (found_further n (v + 1) l (omega arith))
  where
    by_key : (b : Bool) → key_wrong v l ≡ b → (pick b v (wrong_key n (v + 1) l) ≡ 16 → ⊥)
        → ((wrong_key n (v + 1) l ≡ 16 → ⊥) → key_wrong (wrong_key n (v + 1) l) l ≡ true) → key_wrong (pick b v (wrong_key n (v + 1) l)) l ≡ true
    by_key true f g rest = f
    by_key false f g rest = rest g

found_wrong : (l : List ℕ) → (wrong_key 16 0 l ≡ 16 → ⊥) → key_wrong (wrong_key 16 0 l) l ≡ true
found_wrong l w = found_further 16 0 l refl w

-- ---- the part that is named fails, and one is named exactly where the record is unsound

-- does the part fail, of unit u in its table?
abbrev pub fails : List ℕ → ℕ → Option UnitPart → Bool
fails units u None = false
fails units u (Some Check) = not (checked (unit_at u units))
fails units u (Some Layout) = not (eqb (layout (unit_at u units)) 1)
fails units u (Some Place) = not (eqb (unit_number (unit_at u units)) u)
fails units u (Some Method) = not (leb (method (unit_at u units)) 1)
fails units u (Some Step) = not (leb (step (unit_at u units)) 1)
fails units u (Some NextPair) = not (either (eqb (step (unit_at u units)) 1) (next_pair_zero (unit_at u units)))
fails units u (Some (Key v)) = key_wrong v (unit_at u units)
fails units u (Some Unnamed) = not (unnamed_zero (unit_at u units))
fails units u (Some Keeper) = not (both (keeper_shape (unit_at u units)) (keeps_keys units (keeper_of units u)))

-- of a record that is unsound though all but the keeper holds
kept_out : (z s k : Bool) → is_unsound_unit (kept_state k (pick z Unused (pick (both s true) Used Unsound))) ≡ true → not (both s k) ≡ true
kept_out true s k e = ap (λ (b : Bool). either b (not (both s k))) e
kept_out false true true e = e
kept_out false true false e = refl
kept_out false false k e = refl

module _ (units : List ℕ) (u : ℕ) (e : is_unsound_unit (unit_state units u) ≡ true) where
  keeper_fails : checked (unit_at u units) ≡ true → eqb (layout (unit_at u units)) 1 ≡ true → eqb (unit_number (unit_at u units)) u ≡ true
      → leb (method (unit_at u units)) 1 ≡ true → leb (step (unit_at u units)) 1 ≡ true
      → either (eqb (step (unit_at u units)) 1) (next_pair_zero (unit_at u units)) ≡ true → keys_zero 16 (unit_at u units) ≡ true
      → unnamed_zero (unit_at u units) ≡ true → fails units u (Some Keeper) ≡ true
  unfolding unit_state unit_state_of used_shape
  keeper_fails a b c d f g h i =
      kept_out (zeros 492 0 (unit_at u units)) (keeper_shape (unit_at u units)) (keeps_keys units (keeper_of units u))
      (rw (a, b, c, d, f, g, h, i) at e)

  record_fails : fails units u (Some (record_part u (unit_at u units))) ≡ true
  unfolding record_part tail_part
  record_fails =
      let P : UnitPart → Type 0 = λ (part : UnitPart). fails units u (Some part) ≡ true in
      pick_cases P (checked (unit_at u units)) _ Check
      (λ a. pick_cases P (eqb (layout (unit_at u units)) 1) _ Layout
      (λ b. pick_cases P (eqb (unit_number (unit_at u units)) u) _ Place
      (λ c. pick_cases P (leb (method (unit_at u units)) 1) _ Method
      (λ d. pick_cases P (leb (step (unit_at u units)) 1) _ Step
      (λ f. pick_cases P (either (eqb (step (unit_at u units)) 1) (next_pair_zero (unit_at u units))) _ NextPair
      (λ g. pick_cases P (eqb (wrong_key 16 0 (unit_at u units)) 16) _ _
      (λ h. pick_cases P (unnamed_zero (unit_at u units)) Keeper Unnamed
      (λ i. keeper_fails a b c d f g (none_zero (unit_at u units) (eqb-true _ 16 h)) i) (λ i. ap not i)) (λ h. found_wrong (unit_at u
      units) (eqb-false _ 16 h)))
      (λ g. ap not g)) (λ f. ap not f)) (λ d. ap not d)) (λ c. ap not c)) (λ b. ap not b)) (λ a. ap not a)

  -- the part that is named fails
  pub unit_fails : fails units u (unit_part units u) ≡ true
  unfolding unit_part
  unit_fails = rw e record_fails

-- and one is named exactly where the record is unsound
pub unit_named : (units : List ℕ) (u : ℕ) → (unit_part units u ≡ None → is_unsound_unit (unit_state units u) ≡ false)
    × (is_unsound_unit (unit_state units u) ≡ false → unit_part units u ≡ None)
unfolding unit_part
unit_named units u = (λ n. by_state (is_unsound_unit (unit_state units u)) refl n, λ e. rw e)
  where
    by_state : (b : Bool) → is_unsound_unit (unit_state units u) ≡ b → pick b (Some (record_part u (unit_at u units))) None ≡ None → b ≡ false
    by_state true e n = sym (record_fails units u e) ∙ ap (fails units u) n
    by_state false e n = refl

-- ---- the same of a slot's record

-- does the part fail?
abbrev pub slot_fails : List ℕ → Option SlotPart → Bool
slot_fails l None = false
slot_fails l (Some Slot.Check) = not (checked l)
slot_fails l (Some Slot.State) = not (eqb (state_number l) 1)
slot_fails l (Some Slot.Unit) = not (leb (slot_unit l) 7)
slot_fails l (Some Slot.TokenLength) = not (right_token (token_length l))
slot_fails l (Some Slot.Command) = not (both (data_out (get_or l 8 0)) (legal_len (get_or l 8 0) (command_length l)))
slot_fails l (Some Slot.PastCommand) = not (zeros (100 - command_length l) (8 + command_length l) l)
slot_fails l (Some Slot.PastToken) = not (zeros (64 - token_length l) (108 + token_length l) l)
slot_fails l (Some Slot.Unnamed) = not (zeros 320 172 l)

-- of a record that is unsound though all but the unnamed bytes holds
opened_out : (z s : Bool) → is_unsound_slot (pick z Free (pick s Open UnsoundSlot)) ≡ true → not s ≡ true
opened_out true s e = ap (λ (b : Bool). either b (not s)) e
opened_out false true e = e
opened_out false false e = refl

module _ (l : List ℕ) (e : is_unsound_slot (slot_state_of l) ≡ true) where
  unnamed_fails : checked l ≡ true → eqb (state_number l) 1 ≡ true → leb (slot_unit l) 7 ≡ true → right_token (token_length l) ≡ true
      → both (data_out (get_or l 8 0)) (legal_len (get_or l 8 0) (command_length l)) ≡ true
      → zeros (100 - command_length l) (8 + command_length l) l ≡ true → zeros (64 - token_length l) (108 + token_length l) l ≡ true
      → slot_fails l (Some Slot.Unnamed) ≡ true
  unfolding slot_state_of open_shape
  unnamed_fails a b c d f g h = opened_out (zeros 492 0 l) (zeros 320 172 l) (rw (a, b, c, d, f, g, h) at e)

  open_fails : slot_fails l (Some (open_part l)) ≡ true
  unfolding open_part space_part
  open_fails =
      let P : SlotPart → Type 0 = λ (part : SlotPart). slot_fails l (Some part) ≡ true in
      pick_cases P (checked l) _ Slot.Check
      (λ a. pick_cases P (eqb (state_number l) 1) _ Slot.State
      (λ b. pick_cases P (leb (slot_unit l) 7) _ Slot.Unit
      (λ c. pick_cases P (right_token (token_length l)) _ Slot.TokenLength
      (λ d. pick_cases P (both (data_out (get_or l 8 0)) (legal_len (get_or l 8 0) (command_length l))) _ Slot.Command
      (λ f. pick_cases P (zeros (100 - command_length l) (8 + command_length l) l) _ Slot.PastCommand
      (λ g. pick_cases P (zeros (64 - token_length l) (108 + token_length l) l) Slot.Unnamed Slot.PastToken
      (λ h. unnamed_fails a b c d f g h) (λ h. ap not h)) (λ g. ap not g)) (λ f. ap not f)) (λ d. ap not d)) (λ c. ap not c)) (λ b. ap
      not b))
      (λ a. ap not a)

  pub slot_fails_lem : slot_fails l (slot_part l) ≡ true
  unfolding slot_part
  slot_fails_lem = rw e open_fails

pub slot_named : (l : List ℕ) → (slot_part l ≡ None → is_unsound_slot (slot_state_of l) ≡ false)
    × (is_unsound_slot (slot_state_of l) ≡ false → slot_part l ≡ None)
unfolding slot_part
slot_named l = (λ n. by_state (is_unsound_slot (slot_state_of l)) refl n, λ e. rw e)
  where
    by_state : (b : Bool) → is_unsound_slot (slot_state_of l) ≡ b → pick b (Some (open_part l)) None ≡ None → b ≡ false
    by_state true e n = sym (open_fails l e) ∙ ap (slot_fails l) n
    by_state false e n = refl
