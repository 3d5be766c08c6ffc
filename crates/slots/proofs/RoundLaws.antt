-- Laws of a parked command: the record of an open slot is sound, gives back the unit, the command and the token put in, and is the only
-- one that does.
use Rattle.std.specs.Prelude.{◌≡◌, ◌⊎◌, Bool, true, false, List, ℕ, ◌+◌, ◌-◌, ◌≤◌, ◌<◌, get_or}
use Rattle.std.proofs.Math.Path.{refl, ap, ap₂}
use Rattle.std.proofs.Common.{◌∙◌, sym, inl, inr, le-leb}
use native.Mathlib.Omega.{arith}
use Rattle.std.proofs.Math.Nat.{zero-add}
use Rattle.std.proofs.Math.ListN.{length}
use Rattle.wire.specs.Bytes.{AreBytes, part, number, bytes_of, zeros, patch}
use Rattle.wire.proofs.PatchLaws.{length_patch, part_outside, part_same, part_join, parts_same}
use Rattle.wire.proofs.NumberLaws.{number_outside, number_inside, number_bytes, bytes_number, number_two}
use Rattle.wire.proofs.ZeroLaws.{zeros_at, zeros_outside, zeros_replicate, zeros_part, room_same}
use Rattle.seal.specs.Seal.{checked, seal, blank}
use Rattle.seal.specs.SealLaws.{seal_length, seal_part, seal_number, seal_zeros, seal_checked, checked_same}
use Rattle.seal.specs.BlankLaws.{blank_length}
use Rattle.model.specs.Codes.{data_out, legal_len}
use Rattle.model.proofs.CodeLaws.{legal_small, legal_some}
use Rattle.slots.specs.declared.SlotState.TheVariants.{Open}
use Rattle.slots.specs.Slot.{state_number, slot_unit, command_length, token_length, slot_command, slot_token, right_token}
use Rattle.slots.specs.Slot.{open_shape, slot_state_of, open_head, open_record, slot_at, parked}
use Rattle.slots.proofs.SlotLaws.{open_sound, open_sizes}
use Rattle.slots.proofs.TableLaws.{put_length, put_here, put_other}

-- ---- what makes any record open

-- the tests, each passed
shape_of : (l : List ℕ) (u n m : ℕ) → state_number l ≡ 1 → slot_unit l ≡ u → command_length l ≡ n → token_length l ≡ m
    → u ≤ 7 → 16 ≤ m → m ≤ 64 → data_out (get_or l 8 0) ≡ true → legal_len (get_or l 8 0) n ≡ true
    → zeros (100 - n) (8 + n) l ≡ true → zeros (64 - m) (108 + m) l ≡ true → zeros 320 172 l ≡ true → open_shape l ≡ true
unfolding open_shape right_token
shape_of l u n m es eu en em hu h16 h64 hd hl zc zt zr =
    rw (es, eu, en, em, le-leb u 7 hu, le-leb 16 m h16, le-leb m 64 h64, hd, hl, zc, zt, zr)

-- a record whose state is 1 is not all zeros
not_zeros : (l : List ℕ) → state_number l ≡ 1 → (z : Bool) → zeros 492 0 l ≡ z → z ≡ false
unfolding state_number
not_zeros l e false q = refl
not_zeros l e true q =
    let n = number_two 0 l in
    let a : get_or l 0 0 ≡ 0 = zeros_at 492 0 l q 0 (omega arith) in
    let b : get_or l 1 0 ≡ 0 = zeros_at 492 0 l q 1 (omega arith) in
    absurd (omega arith)

open_of : (l : List ℕ) → checked l ≡ true → state_number l ≡ 1 → open_shape l ≡ true → slot_state_of l ≡ Open
unfolding slot_state_of
open_of l k e s = rw (k, not_zeros l e (zeros 492 0 l) refl, s)

-- ---- the head

head_length : (u n m : ℕ) → length (open_head u n m) ≡ 8
unfolding open_head bytes_of
head_length u n m = refl

head_state : (u n m : ℕ) → number 2 0 (open_head u n m) ≡ 1
unfolding open_head bytes_of number
head_state u n m = refl

head_unit : (u n m : ℕ) → number 2 2 (open_head u n m) ≡ number 2 0 (bytes_of 2 u)
unfolding open_head bytes_of number
head_unit u n m = refl

head_command : (u n m : ℕ) → number 2 4 (open_head u n m) ≡ number 2 0 (bytes_of 2 n)
unfolding open_head bytes_of number
head_command u n m = refl

head_token : (u n m : ℕ) → number 2 6 (open_head u n m) ≡ number 2 0 (bytes_of 2 m)
unfolding open_head bytes_of number
head_token u n m = refl

-- ---- the record: what stands in each place

blank_zeros : (k b : ℕ) → b + k ≤ 512 → zeros k b blank ≡ true
unfolding blank
blank_zeros k b h = zeros_replicate 512 k b h

module _ (u : ℕ) (command token : List ℕ) (hc : length command ≤ 100) (ht : length token ≤ 64) where
  head : List ℕ
  head = open_head u (length command) (length token)

  one : List ℕ
  one = patch blank 0 head

  two : List ℕ
  two = patch one 8 command

  three : List ℕ
  three = patch two 108 token

  fits_one : 0 + length head ≤ length blank
  unfolding head
  fits_one = rw (head_length u (length command) (length token), blank_length) (omega arith)

  length_one : length one ≡ 512
  unfolding one
  length_one = length_patch blank 0 head fits_one ∙ blank_length

  fits_two : 8 + length command ≤ length one
  fits_two = rw length_one (omega arith)

  length_two : length two ≡ 512
  unfolding two
  length_two = length_patch one 8 command fits_two ∙ length_one

  fits_three : 108 + length token ≤ length two
  fits_three = rw length_two (omega arith)

  length_three : length three ≡ 512
  unfolding three
  length_three = length_patch two 108 token fits_three ∙ length_two

  is_seal : open_record u command token ≡ seal three
  unfolding open_record three two one head
  is_seal = refl

  pub open_length : length (open_record u command token) ≡ 512
  open_length = rw is_seal (seal_length three length_three)

  open_checked : checked (open_record u command token) ≡ true
  open_checked = rw is_seal (seal_checked three length_three)

  open_front : part 0 8 (open_record u command token) ≡ open_head u (length command) (length token)
  unfolding three two one head
  open_front =
      ap (part 0 8) is_seal
      ∙ seal_part three length_three 0 8 (omega arith)
      ∙ part_outside two 108 token fits_three 0 8 (inl (omega arith))
      ∙ part_outside one 8 command fits_two 0 8 (inl (omega arith))
      ∙ ap (λ (n : ℕ). part 0 n (patch blank 0 head)) (sym (head_length u (length command) (length token)))
      ∙ part_same blank 0 head fits_one

  -- a number of the head
  open_number : (a : ℕ) → a + 2 ≤ 8 → number 2 a (open_record u command token) ≡ number 2 a (open_head u (length command) (length token))
  unfolding three two one head
  open_number a h =
      let k : length (open_head u (length command) (length token)) ≡ 8 = head_length u (length command) (length token) in
      ap (number 2 a) is_seal
      ∙ seal_number three length_three 2 a (omega arith)
      ∙ number_outside two 108 token fits_three 2 a (inl (omega arith))
      ∙ number_outside one 8 command fits_two 2 a (inl (omega arith))
      ∙ rw zero-add at (number_inside blank 0 head fits_one 2 a (omega arith))

  -- the byte that says what command it is
  open_code : 1 ≤ length command → get_or (open_record u command token) 8 0 ≡ get_or command 0 0
  unfolding three two number
  open_code h =
      let e : number 1 8 (open_record u command token) ≡ number 1 0 command =
      ap (number 1 8) is_seal
      ∙ seal_number three length_three 1 8 (omega arith)
      ∙ number_outside two 108 token fits_three 1 8 (inl (omega arith))
      ∙ number_inside one 8 command fits_two 1 0 (omega arith) in
      omega arith

  -- zeros past the command, outside the token
  open_zeros : (k b : ℕ) → 8 + length command ≤ b → b + k ≤ 492 → (b + k ≤ 108) ⊎ (108 + length token ≤ b)
      → zeros k b (open_record u command token) ≡ true
  unfolding three two one head
  open_zeros k b h g apart =
      let e : length (open_head u (length command) (length token)) ≡ 8 = head_length u (length command) (length token) in
      rw is_seal
      (seal_zeros three length_three k b g
      (zeros_outside two 108 token fits_three k b apart
      (zeros_outside one 8 command fits_two k b (inr h)
      (zeros_outside blank 0 head fits_one k b (inr (omega arith)) (blank_zeros k b (omega arith))))))

  -- ---- what comes back

  open_state : state_number (open_record u command token) ≡ 1
  unfolding state_number
  open_state = open_number 0 (omega arith) ∙ head_state u (length command) (length token)

  pub open_unit : u < 65536 → slot_unit (open_record u command token) ≡ u
  unfolding slot_unit
  open_unit h = open_number 2 (omega arith) ∙ head_unit u (length command) (length token) ∙ number_bytes 2 u h

  command_length_lem : command_length (open_record u command token) ≡ length command
  unfolding command_length
  command_length_lem =
      open_number 4 (omega arith) ∙ head_command u (length command) (length token) ∙ number_bytes 2 (length command) (omega arith)

  token_length_lem : token_length (open_record u command token) ≡ length token
  unfolding token_length
  token_length_lem = open_number 6 (omega arith) ∙ head_token u (length command) (length token) ∙ number_bytes 2 (length token) (omega arith)

  pub open_command : slot_command (open_record u command token) ≡ command
  unfolding slot_command three two
  open_command =
      ap₂ (part 8) command_length_lem is_seal
      ∙ seal_part three length_three 8 (length command) (omega arith)
      ∙ part_outside two 108 token fits_three 8 (length command) (inl (omega arith))
      ∙ part_same one 8 command fits_two

  pub open_token : slot_token (open_record u command token) ≡ token
  unfolding slot_token three
  open_token =
      ap₂ (part 108) token_length_lem is_seal
      ∙ seal_part three length_three 108 (length token) (omega arith)
      ∙ part_same two 108 token fits_three

-- a parked command is a sound open slot
pub parked_open : (u : ℕ) (command token : List ℕ) → u ≤ 7 → 16 ≤ length token → length token ≤ 64
    → data_out (get_or command 0 0) ≡ true → legal_len (get_or command 0 0) (length command) ≡ true
    → slot_state_of (open_record u command token) ≡ Open
parked_open u command token hu h16 h64 hd hl =
    let small = legal_small (get_or command 0 0) (length command) hl in
    let some = legal_some (get_or command 0 0) (length command) hl in
    let hc : length command ≤ 100 = omega arith in
    let rec = open_record u command token in
    let code : get_or rec 8 0 ≡ get_or command 0 0 = open_code u command token hc h64 (omega arith) in
    open_of rec (open_checked u command token hc h64) (open_state u command token hc h64)
    (shape_of rec u (length command) (length token) (open_state u command token hc h64) (open_unit u command token hc h64 (omega arith))
    (command_length_lem u command token hc h64) (token_length_lem u command token hc h64) hu h16 h64 (rw code hd) (rw code hl)
    (open_zeros u command token hc h64 (100 - length command) (8 + length command) (omega arith) (omega arith) (inl (omega arith)))
    (open_zeros u command token hc h64 (64 - length token) (108 + length token) (omega arith) (omega arith) (inr (omega arith)))
    (open_zeros u command token hc h64 320 172 (omega arith) (omega arith) (inr (omega arith))))

-- ---- in the table

module _ (i u : ℕ) (command token slots : List ℕ) (hc : length command ≤ 100) (ht : length token ≤ 64)
    (full : length slots ≡ 8192) (h : i < 16) where
  pub parked_length : length (parked i u command token slots) ≡ 8192
  unfolding parked
  parked_length = put_length i slots (open_record u command token) full h (open_length u command token hc ht)

  pub parked_here : slot_at i (parked i u command token slots) ≡ open_record u command token
  unfolding parked
  parked_here = put_here i slots (open_record u command token) full h (open_length u command token hc ht)

  pub parked_other : (j : ℕ) → (i ≡ j → ⊥) → slot_at j (parked i u command token slots) ≡ slot_at j slots
  unfolding parked
  parked_other j ne = put_other i slots (open_record u command token) full h (open_length u command token hc ht) j ne

-- ---- an open slot that is found: its bytes are those that parking its command writes

module _ (rec : List ℕ) (full : length rec ≡ 512) (small : AreBytes rec) where
  found_head : state_number rec ≡ 1 → open_head (slot_unit rec) (command_length rec) (token_length rec) ≡ part 0 8 rec
  unfolding open_head state_number slot_unit command_length token_length
  found_head one =
      let bytes : (a : ℕ) → a ≤ 6 → bytes_of 2 (number 2 a rec) ≡ part a 2 rec = λ a h. bytes_number 2 a rec small (omega arith) in
      part_join 0 2 6 rec _ _ (ap (bytes_of 2) (sym one) ∙ bytes 0 (omega arith))
      (part_join 2 2 4 rec _ _ (bytes 2 (omega arith))
      (part_join 4 2 2 rec _ _ (bytes 4 (omega arith)) (bytes 6 (omega arith))))

-- state 1, zeros past their lengths and in the unnamed bytes, and the check leave no other bytes
pub open_record_lem : (rec : List ℕ) → length rec ≡ 512 → AreBytes rec → slot_state_of rec ≡ Open
    → open_record (slot_unit rec) (slot_command rec) (slot_token rec) ≡ rec
unfolding slot_command slot_token
open_record_lem rec full small e =
    let s = open_sound rec e in
    let n : ℕ = command_length rec in
    let m : ℕ = token_length rec in
    let c : List ℕ = slot_command rec in
    let t : List ℕ = slot_token rec in
    let sizes = open_sizes rec full e in
    let short = legal_small _ n s.legal in
    let hc : length c ≤ 100 = omega arith in
    let ht : length t ≤ 64 = omega (arith, s.most) in
    let o : List ℕ = open_record (slot_unit rec) c t in
    let long : length o ≡ 512 = open_length (slot_unit rec) c t hc ht in
    let head : part 0 8 o ≡ part 0 8 rec =
    open_front (slot_unit rec) c t hc ht ∙ ap₂ (open_head (slot_unit rec)) sizes.0 sizes.1 ∙ found_head rec full small s.state in
    let command : part 8 n o ≡ part 8 n rec =
    ap (λ (k : ℕ). part 8 k o) (sym (command_length_lem (slot_unit rec) c t hc ht ∙ sizes.0)) ∙ open_command (slot_unit rec) c t hc ht in
    let token : part 108 m o ≡ part 108 m rec =
    ap (λ (k : ℕ). part 108 k o) (sym (token_length_lem (slot_unit rec) c t hc ht ∙ sizes.1)) ∙ open_token (slot_unit rec) c t hc ht in
    let zero : (k b : ℕ) → 8 + n ≤ b → b + k ≤ 492 → (b + k ≤ 108) ⊎ (108 + m ≤ b) → zeros k b o ≡ true =
    λ k b h g apart. open_zeros (slot_unit rec) c t hc ht k b (omega arith) g (rw sizes.1 apart) in
    let commands : part 8 100 o ≡ part 8 100 rec =
    room_same 8 100 n o rec (omega arith) (omega arith) (omega arith) command
    (zero (100 - n) (8 + n) (omega arith) (omega arith) (inl (omega arith))) s.past_command in
    let tokens : part 108 64 o ≡ part 108 64 rec =
    room_same 108 64 m o rec s.most (omega arith) (omega arith) token
    (zero (64 - m) (108 + m) (omega arith) (omega (arith, s.most)) (inr (omega arith))) s.past_token in
    let unnamed : part 172 320 o ≡ part 172 320 rec =
    zeros_part 320 172 o (omega arith) (zero 320 172 (omega arith) (omega arith) (inr (omega (arith, s.most))))
    ∙ sym (zeros_part 320 172 rec (omega arith) s.unnamed) in
    checked_same o rec long full (open_checked (slot_unit rec) c t hc ht) s.check
    (parts_same 0 8 484 o rec head (parts_same 8 100 384 o rec commands (parts_same 108 64 320 o rec tokens unnamed)))
