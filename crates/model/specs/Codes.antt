-- How long a command of an operation code is, and which carry data out (document 01, "Commands and what they need").
-- docs/RULES.md, 3.1, 3.3.
use Rattle.std.specs.Prelude.{ℕ, ◌+◌, Bool, false, List, [], ◌∷◌, eqb, leb}
use Rattle.choice.specs.Choice.{both, either, pick}
use Rattle.model.specs.Among.{is_in}

-- is the code in the range, both ends in it?
abbrev pub within : ℕ → ℕ → ℕ → Bool
within first last code = both (leb first code) (leb code last)

-- the CDB's length, 0 where the code has none
unfoldable pub cdb_len : ℕ → ℕ
cdb_len code =
    pick (within 0x00 0x1F code) 6
    (pick (within 0x20 0x5F code) 10
    (pick (within 0x80 0x9F code) 16
    (pick (within 0xA0 0xBF code) 12
    0)))

-- a command is the CDB alone (bare), or 78 bytes more (wrapped); a code without a CDB length has no command
unfoldable pub legal_len : ℕ → ℕ → Bool
legal_len code n = pick (eqb (cdb_len code) 0) false (either (eqb n (cdb_len code)) (eqb n (cdb_len code + 78)))

abbrev pub data_out_codes : List ℕ
data_out_codes = 0x0A ∷ 0x15 ∷ 0x2A ∷ 0x2E ∷ 0x55 ∷ 0x8A ∷ 0xAA ∷ 0xB5 ∷ []

unfoldable pub data_out : ℕ → Bool
data_out code = is_in data_out_codes code
