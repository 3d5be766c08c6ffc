-- The parameter lists of the Out pages (document 01, "Pages"): the fields of a list d, and what is wrong with one. docs/RULES.md, 6.1.
use Rattle.std.specs.Prelude.{Bool, not, List, ℕ, ◌-◌, eqb, ltb}
use Rattle.choice.specs.Choice.{pick, either}
use Rattle.wire.specs.Bytes.{part, number}
use Rattle.model.specs.Protocol.{set_attributes, seed_exchange, set_key, change_master}
use Rattle.model.specs.Totals.{total_of}

-- every list: page code, page length
unfoldable pub list_page : List ℕ → ℕ
list_page d = number 2 0 d

unfoldable pub list_length : List ℕ → ℕ
list_length d = number 2 2 d

-- Set Attributes 12: 0011h, 0008h, method, tag, two zeros
unfoldable pub new_method : List ℕ → ℕ
new_method d = number 2 4 d

unfoldable pub new_tag : List ℕ → ℕ
new_tag d = number 4 6 d

-- method above 1 is wrong, any tag may be set
unfoldable pub wrong_attributes : List ℕ → Bool
wrong_attributes d = either (ltb 1 (new_method d)) (not (eqb (number 2 10 d) 0))

-- Set Key 28: 0014h, 0018h, version byte 0-15, three zeros, seed of 20
unfoldable pub new_version : List ℕ → ℕ
new_version d = number 1 4 d

unfoldable pub seed : List ℕ → List ℕ
seed d = part 8 20 d

unfoldable pub wrong_key : List ℕ → Bool
wrong_key d = either (ltb 15 (new_version d)) (not (eqb (number 3 5 d) 0))

-- Seed Exchange 264: 0012h, 0104h, group 000Eh, two zeros, agreed value of 256
unfoldable pub group : List ℕ → ℕ
group d = number 2 4 d

unfoldable pub agreed : List ℕ → List ℕ
agreed d = part 8 256 d

unfoldable pub wrong_exchange : List ℕ → Bool
wrong_exchange d = either (not (eqb (group d) 0x000E)) (not (eqb (number 2 6 d) 0))

-- Change 4: 0015h, 0000h; any other page is wrong
unfoldable pub wrong_fields : ℕ → List ℕ → Bool
wrong_fields page d =
    pick (eqb page set_attributes) (wrong_attributes d)
    (pick (eqb page set_key) (wrong_key d)
    (pick (eqb page seed_exchange) (wrong_exchange d)
    (not (eqb page change_master))))

-- 19: page code, page length, a field or a named zero wrong; the page length counts what follows it
unfoldable pub wrong_list : ℕ → List ℕ → Bool
wrong_list page d =
    either (not (eqb (list_page d) page))
    (either (not (eqb (list_length d) (total_of page - 4)))
    (wrong_fields page d))
