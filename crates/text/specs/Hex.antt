-- Hex digits: the value of one, bytes as digits, and digits as bytes.
use Rattle.std.specs.Prelude.{Bool, true, not, List, [], ◌∷◌, ◌++◌, ℕ, zero, suc, ◌+◌, ◌*◌, ◌-◌, ◌/◌, ◌%◌, eqb, leb, ltb, length, get_or}
use Rattle.choice.specs.Choice.{both, either, pick}

abbrev pub within : ℕ → ℕ → ℕ → Bool
within least most c = both (leb least c) (leb c most)

-- what a digit says: 30h to 39h (0 to 9), 41h to 46h (A to F), 61h to 66h (a to f); 16 for any other byte, which says nothing
unfoldable pub value : ℕ → ℕ
value c = pick (within 0x30 0x39 c) (c - 0x30) (pick (within 0x41 0x46 c) (c - 0x41 + 10) (pick (within 0x61 0x66 c) (c - 0x61 + 10) 16))

-- the digit of x, which is below 16; `ten` is the letter for ten
unfoldable pub digit : ℕ → ℕ → ℕ
digit ten x = pick (ltb x 10) (0x30 + x) (ten + (x - 10))

-- the two digits of a byte
unfoldable pub two_digits : ℕ → ℕ → List ℕ
two_digits ten b = digit ten (b / 16) ∷ digit ten (b % 16) ∷ []

-- the digits of the first n bytes of l, in lower case
unfoldable pub digits_of : ℕ → List ℕ → List ℕ
digits_of zero l = []
digits_of (suc n) l = digits_of n l ++ two_digits 0x61 (get_or l n 0)

-- bytes as text: `-` for none
unfoldable pub hex_text : List ℕ → List ℕ
hex_text l = pick (eqb (length l) 0) (0x2d ∷ []) (digits_of (length l) l)

-- do the first n bytes of s all say a value below base, which is 10 or 16? (Above 16 every byte would.)
unfoldable pub all_digits : ℕ → ℕ → List ℕ → Bool
all_digits base zero s = true
all_digits base (suc n) s = both (all_digits base n s) (ltb (value (get_or s n 0)) base)

-- the n bytes whose digits s starts with
unfoldable pub bytes_in : ℕ → List ℕ → List ℕ
bytes_in zero s = []
bytes_in (suc n) s = bytes_in n s ++ ((value (get_or s (2 * n) 0) * 16 + value (get_or s (2 * n + 1) 0)) ∷ [])

-- `-` alone
unfoldable pub is_dash : List ℕ → Bool
is_dash s = both (eqb (length s) 1) (eqb (get_or s 0 0) 0x2d)

-- one pair of digits or more
unfoldable pub are_pairs : List ℕ → Bool
are_pairs s = both (not (eqb (length s) 0)) (both (eqb (length s % 2) 0) (all_digits 16 (length s) s))

-- is s bytes as text? And those that it says
unfoldable pub is_hex : List ℕ → Bool
is_hex s = either (is_dash s) (are_pairs s)

unfoldable pub hex_bytes : List ℕ → List ℕ
hex_bytes s = pick (is_dash s) [] (bytes_in (length s / 2) s)
