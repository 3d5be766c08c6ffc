-- The rows of the Controlled Commands page, IN page 0013h (document 01, "Pages"). docs/RULES.md, 6.3.
use Rattle.std.specs.Prelude.{ℕ, ◌/◌, ◌%◌, Bool, List, [], ◌∷◌, ◌++◌, eqb, ltb}
use Rattle.choice.specs.Choice.{both, either, pick}
use Rattle.model.specs.Rows.{Needs, open_row, permission, master_row, Row, rows}

-- does the row come before the other, by code and then page?
abbrev pub precedes : Row → Row → Bool
precedes r s = either (ltb r.code s.code) (both (eqb r.code s.code) (ltb r.page s.page))

abbrev pub insert : Row → List Row → List Row
insert r [] = r ∷ []
insert r (s ∷ ss) = pick (precedes r s) (r ∷ s ∷ ss) (s ∷ insert r ss)

abbrev pub sorted : List Row → List Row
sorted [] = []
sorted (r ∷ rs) = insert r (sorted rs)

unfoldable pub ascending : List Row
ascending = sorted rows

abbrev pub permission_byte : Needs → ℕ
permission_byte open_row = 0x00
permission_byte (permission p) = p
permission_byte (master_row p) = p

abbrev pub master_byte : Needs → ℕ
master_byte open_row = 0x00
master_byte (permission p) = 0x00
master_byte (master_row p) = 0x01

-- code, 00h, page (big-endian), permission byte, 01h for master else 00h
abbrev pub row_bytes : Row → List ℕ
row_bytes r = r.code ∷ 0x00 ∷ r.page / 256 ∷ r.page % 256 ∷ permission_byte r.needs ∷ master_byte r.needs ∷ []

abbrev pub rows_bytes : List Row → List ℕ
rows_bytes [] = []
rows_bytes (r ∷ rs) = row_bytes r ++ rows_bytes rs

unfoldable pub controlled : List ℕ
controlled = rows_bytes ascending
