-- Laws of a slot's record: it is free exactly where it is the blank record; the tests in the code's order give its state; what an open
-- one holds; and the steps that write one.
use Rattle.std.specs.Prelude.{◌≡◌, refl, Bool, true, false, List, ℕ, ◌+◌, ◌-◌, ◌≤◌, leb, length, replicate, get_or}
use Rattle.std.proofs.Common.{◌∙◌, sym, ap, arith, length-take, length-drop, eqb-true, leb-true}
use Rattle.choice.specs.Choice.{pick}
use Rattle.choice.specs.ChoiceLaws.{both_true}
use Rattle.wire.specs.Bytes.{same, zeros, patch}
use Rattle.wire.proofs.SameLaws.{same_true, same_refl, same_is}
use Rattle.seal.specs.Seal.{checked, seal, blank, blank_record}
use Rattle.seal.specs.BlankLaws.{blank_sound, record_zeros, record_checked}
use Rattle.model.specs.Codes.{data_out, legal_len}
use Rattle.model.proofs.CodeLaws.{legal_small}
use Rattle.slots.specs.declared.SlotState.{SlotState}
use Rattle.slots.specs.declared.SlotState.TheVariants.{Free, Open, Unsound}
use Rattle.slots.specs.Slot.{state_number, slot_unit, command_length, token_length, slot_command, slot_token, right_token}
use Rattle.slots.specs.Slot.{open_shape, slot_state_of, open_head, open_record, is_free, is_open}

-- the choices of `slot_state_of`, over the three tests
abbrev state_by : Bool → Bool → Bool → SlotState
state_by k z s = pick k (pick z Free (pick s Open Unsound)) Unsound

-- a state is free only by the check and the zeros
free_parts : (k z s : Bool) → is_free (state_by k z s) ≡ true → (k ≡ true) × (z ≡ true)
free_parts true true s e = (refl, refl)
free_parts true false true e = (refl, e)
free_parts true false false e = (refl, e)
free_parts false z s e = (e, cc)

pub record_free : slot_state_of blank_record ≡ Free
unfolding slot_state_of
record_free = rw (record_checked, record_zeros)

-- a slot is free exactly where its bytes are the blank record
pub free_blank : (l : List ℕ) → length l ≡ 512 → is_free (slot_state_of l) ≡ same l blank_record
unfolding slot_state_of
free_blank l full =
    same_is (is_free (slot_state_of l)) l blank_record
    (λ e. let p = free_parts (checked l) (zeros 492 0 l) (open_shape l) e in blank_sound l full p.0 p.1)
    (λ e. ap (λ (x : List ℕ). is_free (slot_state_of x)) e ∙ ap is_free record_free)

-- ---- the state, by the blank record first

pub blank_free : (l : List ℕ) → same l blank_record ≡ true → slot_state_of l ≡ Free
blank_free l e = ap slot_state_of (same_true l blank_record e) ∙ record_free

-- a checked record that is not blank is not all zeros
not_zeros : (l : List ℕ) → length l ≡ 512 → same l blank_record ≡ false → checked l ≡ true → (z : Bool) → zeros 492 0 l ≡ z → z ≡ false
not_zeros l full b k false e = refl
not_zeros l full b k true e = sym (same_refl l) ∙ ap (same l) (blank_sound l full k e) ∙ b

pub checked_state : (l : List ℕ) → length l ≡ 512 → same l blank_record ≡ false → checked l ≡ true
    → slot_state_of l ≡ pick (open_shape l) Open Unsound
unfolding slot_state_of
checked_state l full b k = rw (k, not_zeros l full b k (zeros 492 0 l) refl)

pub unchecked_state : (l : List ℕ) → checked l ≡ false → slot_state_of l ≡ Unsound
unfolding slot_state_of
unchecked_state l k = rw k

-- ---- what an open slot holds

pub token_is : (n : ℕ) → right_token n ≡ true → (16 ≤ n) × (n ≤ 64)
unfolding right_token
token_is n e = let p = both_true (leb 16 n) (leb n 64) e in (leb-true 16 n p.0, leb-true n 64 p.1)

pub record Sound (l : List ℕ) : Type 0 where
  pub check : checked l ≡ true
  pub state : state_number l ≡ 1
  pub unit : slot_unit l ≤ 7
  pub least : 16 ≤ token_length l
  pub most : token_length l ≤ 64
  pub out : data_out (get_or l 8 0) ≡ true
  pub legal : legal_len (get_or l 8 0) (command_length l) ≡ true
  pub past_command : zeros (100 - command_length l) (8 + command_length l) l ≡ true
  pub past_token : zeros (64 - token_length l) (108 + token_length l) l ≡ true
  pub unnamed : zeros 320 172 l ≡ true

open_parts : (k z s : Bool) → state_by k z s ≡ Open → (k ≡ true) × (s ≡ true)
open_parts true true s e = (refl, cc)
open_parts true false true e = (refl, refl)
open_parts true false false e = (refl, cc)
open_parts false z s e = (cc, cc)

pub open_sound : (l : List ℕ) → slot_state_of l ≡ Open → Sound l
unfolding slot_state_of open_shape
open_sound l e =
    let p = open_parts (checked l) (zeros 492 0 l) (open_shape l) e in
    let p1 = both_true _ _ p.1 in
    let p2 = both_true _ _ p1.1 in
    let p3 = both_true _ _ p2.1 in
    let p4 = both_true _ _ p3.1 in
    let p5 = both_true _ _ p4.1 in
    let p6 = both_true _ _ p5.1 in
    let token = token_is _ p3.0 in
    let command = both_true _ _ p4.0 in
    record {
      check = p.0;
      state = eqb-true _ _ p1.0;
      unit = leb-true _ _ p2.0;
      least = token.0;
      most = token.1;
      out = command.0;
      legal = command.1;
      past_command = p5.0;
      past_token = p6.0;
      unnamed = p6.1;
    }

-- the command and the token of an open slot end within its record
pub open_fits : (l : List ℕ) → slot_state_of l ≡ Open → (8 + command_length l ≤ 512) × (108 + token_length l ≤ 512)
open_fits l e =
    let s = open_sound l e in
    let n = legal_small _ (command_length l) s.legal in
    let m : token_length l ≤ 64 = s.most in
    (omega arith, omega arith)

-- and are as long as it says
pub open_sizes : (l : List ℕ) → length l ≡ 512 → slot_state_of l ≡ Open
    → (length (slot_command l) ≡ command_length l) × (length (slot_token l) ≡ token_length l)
unfolding slot_command slot_token
open_sizes l full e =
    let f = open_fits l e in
    (simp (length-take, length-drop) (omega arith), simp (length-take, length-drop) (omega arith))

pub is_open_state : (s : SlotState) → is_open s ≡ true → s ≡ Open
is_open_state Free e = let z : ◌≡◌ {A = ℕ} 0 1 = cc in absurd (omega arith)
is_open_state Open e = refl
is_open_state Unsound e = let z : ◌≡◌ {A = ℕ} 0 1 = cc in absurd (omega arith)

-- ---- the writer's steps, one after the other: the head, zeros, three patches, the check

pub open_steps : (u : ℕ) (command token head : List ℕ) (n : ℕ) (a b c d e : List ℕ) → head ≡ open_head u (length command) (length token)
    → a ≡ replicate n 0 → n ≡ 512 → b ≡ patch a 0 head → c ≡ patch b 8 command → d ≡ patch c 108 token → e ≡ seal d
    → e ≡ open_record u command token
unfolding open_record blank
open_steps u command token head n a b c d e hh ha hn hb hc hd he = rw (he, hd, hc, hb, ha, hn, hh)
