-- What document 01's number of an answer says of it ("What a call gets and gives"): whether it is GOOD, whether it is final, and the
-- values that a caller reads off. docs/RULES.md, 1.2.
use Rattle.std.specs.Prelude.{Bool, true, false, ℕ, eqb, get_or}
use Rattle.choice.specs.Choice.{pick, either}
use Rattle.model.specs.Paper.{No, A, H, paper_of}
use Rattle.model.specs.declared.Answer.{Answer}

abbrev pub is_number_a : ℕ → No → Bool
is_number_a n (A m) = eqb m n
is_number_a n (H m) = false

-- is it A0, A1, ..?
abbrev pub is_a : ℕ → Answer → Bool
is_a n a = is_number_a n (paper_of a).no

abbrev pub is_number_h : No → Bool
is_number_h (A m) = false
is_number_h (H m) = true

-- refused for its form: H1 to H5
abbrev pub is_malformed : Answer → Bool
is_malformed a = is_number_h (paper_of a).no

-- GOOD, status 00h: A0, handled here, and A2, to be run by medium or crypto block
abbrev pub is_good : Answer → Bool
is_good a = either (is_a 0 a) (is_a 2 a)

-- A0, A2 and A3 are final: to an open or a close, the one answer to its command
abbrev pub is_final : Answer → Bool
is_final a = either (is_good a) (is_a 3 a)

-- CHECK CONDITION: neither the medium nor the crypto block gets the command
abbrev pub is_refused : Answer → Bool
is_refused a = is_a 3 a

-- the reply byte count of A0; no other answer has one
abbrev pub count_in : Answer → ℕ
count_in a = pick (is_a 0 a) (get_or (paper_of a).values 1 0) 0

-- the slot of A1
abbrev pub slot_in : Answer → ℕ
slot_in a = get_or (paper_of a).values 0 0
