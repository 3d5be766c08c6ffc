-- Decimal numbers: what digits say, and a number's digits.
use Rattle.std.specs.Prelude.{◌≡◌, List, ℕ, zero, suc, ◌+◌, ◌*◌, get_or}
use Rattle.text.specs.Digits.{last_digits, IsDigitCount}
use Rattle.text.specs.Hex.{value}

-- the number that the first n bytes of s say, where these are digits (`all_digits 10`); of other bytes it says nothing of use
unfoldable pub decimal_of : ℕ → List ℕ → ℕ
decimal_of zero s = 0
decimal_of (suc n) s = decimal_of n s * 10 + value (get_or s n 0)

-- t is x in decimal: as many digits as it takes, one for zero
abbrev pub SpelledOut : ℕ → List ℕ → Type 0
SpelledOut x t = (k : ℕ) × ((IsDigitCount 10 1 x k) × (t ≡ last_digits 10 k x))
