-- The 31 rows of commands and what they need (document 01, "Commands and what they need"), and what is read from them. docs/RULES.md, 3.2.
use Rattle.std.specs.Prelude.{ℕ, Bool, true, false, not, List, [], ◌∷◌, ◌++◌, map, eqb}
use Rattle.choice.specs.Choice.{both, either, pick}
use Rattle.model.specs.Among.{is_in}
use Rattle.model.specs.Protocol.{protocol_in, protocol_out, pages_of_in, pages_of_out, capabilities_in, attributes_in, seed_in, controlled_in, set_attributes, seed_exchange, set_key, change_master}
use Rattle.model.specs.declared.Need.{Need}
use Rattle.model.specs.declared.Need.TheVariants.{Unknown, Open, Bits, Master}

-- what a row asks for: nothing, a permission byte, or a permission byte under the master key
pub data Needs : Type 0 where
  open_row : Needs
  permission : ℕ → Needs
  master_row : ℕ → Needs

-- page is 0 where the code has no pages
pub record Row : Type 0 where
  pub code : ℕ
  pub page : ℕ
  pub needs : Needs

-- rows of codes without pages that need the same
abbrev pub each : Needs → List ℕ → List Row
each n cs = map (λ (c : ℕ). record { code = c; page = 0; needs = n }) cs

-- rows of one code's pages that need the same
abbrev pub pages : ℕ → Needs → List ℕ → List Row
pages c n ps = map (λ (p : ℕ). record { code = c; page = p; needs = n }) ps

unfoldable pub rows : List Row
rows =
    each open_row (0x00 ∷ 0x03 ∷ 0x12 ∷ 0xA0 ∷ []) ++
    each (permission 0x80) (0x08 ∷ 0x25 ∷ 0x28 ∷ 0x2F ∷ 0x88 ∷ 0xA8 ∷ []) ++
    each (permission 0x40) (0x0A ∷ 0x2A ∷ 0x35 ∷ 0x8A ∷ 0xAA ∷ []) ++
    each (permission 0xC0) (0x2E ∷ []) ++
    each (permission 0x20) (0x1A ∷ 0x5A ∷ []) ++
    each (permission 0x10) (0x15 ∷ 0x55 ∷ []) ++
    each (permission 0x48) (0x04 ∷ []) ++
    pages protocol_in open_row (pages_of_in ∷ pages_of_out ∷ capabilities_in ∷ controlled_in ∷ []) ++
    pages protocol_in (permission 0x20) (attributes_in ∷ []) ++
    pages protocol_in (master_row 0x08) (seed_in ∷ []) ++
    pages protocol_out (master_row 0x08) (set_attributes ∷ seed_exchange ∷ set_key ∷ change_master ∷ [])

-- does the code go by page?
abbrev pub by_page : ℕ → Bool
by_page code = is_in (protocol_in ∷ protocol_out ∷ []) code

-- does any row have the code?
unfoldable pub listed : ℕ → Bool
listed code = is_in (map (λ (r : Row). r.code) rows) code

-- ---- what the table of 256 entries holds

abbrev pub entry_for : Needs → ℕ
entry_for open_row = 1
entry_for (permission p) = p
entry_for (master_row p) = p

abbrev pub entry_in : List Row → ℕ → ℕ
entry_in [] code = 0
entry_in (r ∷ rs) code = pick (eqb code r.code) (pick (by_page r.code) 2 (entry_for r.needs)) (entry_in rs code)

-- 0 for a code that no row has, 1 for open, 2 for by page, else the permission byte
unfoldable pub entry_of : ℕ → ℕ
entry_of code = entry_in rows code

-- ---- what a command needs

abbrev pub need_by : Needs → Need
need_by open_row = Open
need_by (permission p) = Bits p
need_by (master_row p) = Master p

-- is it the row of a command with that code, and that page where the code goes by page?
abbrev pub is_row : ℕ → ℕ → Row → Bool
is_row code page r = both (eqb code r.code) (either (not (by_page r.code)) (eqb page r.page))

abbrev pub need_in : List Row → ℕ → ℕ → Need
need_in [] code page = Unknown
need_in (r ∷ rs) code page = pick (is_row code page r) (need_by r.needs) (need_in rs code page)

unfoldable pub need_of : ℕ → ℕ → Need
need_of code page = need_in rows code page

abbrev pub is_unknown : Need → Bool
is_unknown Unknown = true
is_unknown Open = false
is_unknown (Bits p) = false
is_unknown (Master p) = false

abbrev pub is_open_row : Need → Bool
is_open_row Unknown = false
is_open_row Open = true
is_open_row (Bits p) = false
is_open_row (Master p) = false

abbrev pub is_master : Need → Bool
is_master Unknown = false
is_master Open = false
is_master (Bits p) = false
is_master (Master p) = true
