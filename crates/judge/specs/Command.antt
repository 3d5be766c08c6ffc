-- A command as it is judged (document 01, "Commands and what they need"): its code, its page, what it needs, whether it is bare, and what a
-- wrapped one brings behind its CDB. docs/RULES.md, 3.1, 3.2.
use Rattle.std.specs.Prelude.{Bool, List, ℕ, ◌+◌, eqb, length, get_or}
use Rattle.choice.specs.Choice.{both, either}
use Rattle.wire.specs.Bytes.{part, number}
use Rattle.model.specs.Protocol.{protocol_out, change_master}
use Rattle.model.specs.Rows.{need_of, is_unknown}
use Rattle.model.specs.Codes.{cdb_len}
use Rattle.model.specs.declared.Need.{Need}
use Rattle.judge.specs.declared.facts.Facts.{Facts}

abbrev pub code_of : List ℕ → ℕ
code_of c = get_or c 0 0

-- the page in bytes 2-3
abbrev pub page_of : List ℕ → ℕ
page_of c = number 2 2 c

-- the allocation length of an IN, or the parameter list length of an OUT, in bytes 6-9
abbrev pub length_field : List ℕ → ℕ
length_field c = number 4 6 c

unfoldable pub need_for : List ℕ → Need
need_for c = need_of (code_of c) (page_of c)

-- no row has it: it is empty, or its code is unlisted, or its page
unfoldable pub is_unlisted : List ℕ → Bool
is_unlisted c = either (eqb (length c) 0) (is_unknown (need_for c))

-- Change Master Key
unfoldable pub is_change : List ℕ → Bool
is_change c = both (eqb (code_of c) protocol_out) (eqb (page_of c) change_master)

-- the CDB alone
unfoldable pub is_bare : List ℕ → Bool
is_bare c = eqb (length c) (cdb_len (code_of c))

-- of a wrapped one, the descriptor and the integrity check value
unfoldable pub descriptor_of : List ℕ → List ℕ
descriptor_of c = part (cdb_len (code_of c)) 58 c

unfoldable pub check_value_of : List ℕ → List ℕ
check_value_of c = part (cdb_len (code_of c) + 58) 20 c

-- what the code works out of a command once, and hands on
abbrev pub facts_of : List ℕ → Facts
facts_of c = record { code = code_of c; page = page_of c; need = need_for c }
