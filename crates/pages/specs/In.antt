-- The In pages (document 01, "Pages"): each to the byte, and the reply that is cut from one. docs/RULES.md, 6.3, 6.4.
use Rattle.std.specs.Prelude.{List, [], ◌∷◌, ◌++◌, ℕ, eqb, length, take}
use Rattle.choice.specs.Choice.{pick}
use Rattle.wire.specs.Bytes.{bytes_of}
use Rattle.model.specs.Protocol.{pages_of_in, pages_of_out, capabilities_in, attributes_in, seed_in, controlled_in, set_attributes, seed_exchange, set_key, change_master}
use Rattle.model.specs.Controlled.{controlled}
use Rattle.units.specs.Unit.{method, policy_tag, mask}

-- page codes, two bytes each
abbrev pub codes : List ℕ → List ℕ
codes [] = []
codes (p ∷ ps) = bytes_of 2 p ++ codes ps

-- a page: its code, the length of what follows, and that
abbrev pub framed : ℕ → List ℕ → List ℕ
framed p body = bytes_of 2 p ++ (bytes_of 2 (length body) ++ body)

-- the Capabilities page; byte 4 is D0h since units may share keys (02, K4)
unfoldable pub capabilities : List ℕ
capabilities =
    0x00 ∷ 0x10 ∷ 0x00 ∷ 0x10 ∷ 0xD0 ∷ 0x00 ∷ 0x00 ∷ 0x02 ∷ 0x00 ∷ 0x00 ∷
    0x00 ∷ 0x01 ∷ 0x00 ∷ 0x01 ∷ 0x00 ∷ 0x01 ∷ 0x00 ∷ 0x01 ∷ 0x00 ∷ 0x0E ∷ []

-- 0000h lists the pages that IN has, 0001h those that OUT has
unfoldable pub supported_in : List ℕ
supported_in = framed pages_of_in (codes (pages_of_in ∷ pages_of_out ∷ capabilities_in ∷ attributes_in ∷ seed_in ∷ controlled_in ∷ []))

unfoldable pub supported_out : List ℕ
supported_out = framed pages_of_out (codes (set_attributes ∷ seed_exchange ∷ set_key ∷ change_master ∷ []))

-- method, tag, mask; the mask is that of the unit's key set
unfoldable pub attributes_page : List ℕ → List ℕ → List ℕ
attributes_page rec keys = framed attributes_in (bytes_of 2 (method rec) ++ (bytes_of 4 (policy_tag rec) ++ bytes_of 2 (mask keys)))

-- the rows of controlled commands
unfoldable pub controlled_page : List ℕ
controlled_page = framed controlled_in controlled

-- the page that a unit with that record and key set replies, empty where there is none
unfoldable pub in_page : ℕ → List ℕ → List ℕ → List ℕ
in_page page rec keys =
    pick (eqb page pages_of_in) supported_in
    (pick (eqb page pages_of_out) supported_out
    (pick (eqb page capabilities_in) capabilities
    (pick (eqb page attributes_in) (attributes_page rec keys)
    (pick (eqb page controlled_in) controlled_page
    []))))

-- the reply to an allocation length: as many of the page's bytes as it asks for. The count is its length, the smaller of the two (InLaws:
-- `reply_length`)
unfoldable pub reply_of : ℕ → ℕ → List ℕ → List ℕ → List ℕ
reply_of page allocation rec keys = take allocation (in_page page rec keys)

-- how many bytes a page has
unfoldable pub size_of : ℕ → ℕ
size_of page =
    pick (eqb page pages_of_in) 16
    (pick (eqb page pages_of_out) 12
    (pick (eqb page capabilities_in) 20
    (pick (eqb page attributes_in) 12
    (pick (eqb page controlled_in) 190
    0))))
