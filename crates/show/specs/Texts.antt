-- What is shown by name, from lists of texts, a line for each case (text/specs/Lists.antt); docs/MANUAL.md has them.
use Rattle.std.specs.Prelude.{List, [], ◌∷◌, ◌++◌, ℕ, codes, decimal}
use Rattle.text.specs.Scan.{index_of}
use Rattle.text.specs.Lists.{line_of}
use Rattle.model.specs.Protocol.{set_attributes, seed_exchange, set_key, change_master}
use Rattle.show.specs.declared.UnitPart.{UnitPart}
use Rattle.show.specs.declared.UnitPart.TheVariants.{Check, Layout, Place, Method, Step, NextPair, Key, Unnamed, Keeper}
use Rattle.show.specs.declared.SlotPart.{SlotPart}
use Rattle.show.specs.declared.SlotPart.TheVariants as Slot

-- ---- the commands that carry data out, by their codes

unfoldable pub command_codes : List ℕ
command_codes = 0x0A ∷ 0x15 ∷ 0x2A ∷ 0x2E ∷ 0x55 ∷ 0x8A ∷ 0xAA ∷ 0xB5 ∷ []

unfoldable pub command_names : List ℕ
command_names =
    codes "WRITE(6)\nMODE SELECT(6)\nWRITE(10)\nWRITE AND VERIFY(10)\n"
    ++ codes "MODE SELECT(10)\nWRITE(16)\nWRITE(12)\nSECURITY PROTOCOL OUT"

-- ---- the pages of SECURITY PROTOCOL OUT, each name behind a space

unfoldable pub page_codes : List ℕ
page_codes = set_attributes ∷ seed_exchange ∷ set_key ∷ change_master ∷ []

unfoldable pub page_names : List ℕ
page_names = codes " Set Attributes\n Seed Exchange\n Set Key\n Change Master Key"

-- ---- the parts of soundness

unfoldable pub unit_parts : List ℕ
unit_parts = codes "check\nlayout\nplace\nmethod\nstep\nnext pair\nunnamed bytes\nkeeper\nkey "

-- a key has its version behind it
abbrev pub unit_part_text : UnitPart → List ℕ
unit_part_text Check = line_of 0 unit_parts
unit_part_text Layout = line_of 1 unit_parts
unit_part_text Place = line_of 2 unit_parts
unit_part_text Method = line_of 3 unit_parts
unit_part_text Step = line_of 4 unit_parts
unit_part_text NextPair = line_of 5 unit_parts
unit_part_text Unnamed = line_of 6 unit_parts
unit_part_text Keeper = line_of 7 unit_parts
unit_part_text (Key version) = line_of 8 unit_parts ++ decimal version

unfoldable pub slot_parts : List ℕ
slot_parts = codes "check\nstate\nunit\ntoken length\ncommand\nbytes past the command\nbytes past the token\nunnamed bytes"

abbrev pub slot_part_line : SlotPart → ℕ
slot_part_line Slot.Check = 0
slot_part_line Slot.State = 1
slot_part_line Slot.Unit = 2
slot_part_line Slot.TokenLength = 3
slot_part_line Slot.Command = 4
slot_part_line Slot.PastCommand = 5
slot_part_line Slot.PastToken = 6
slot_part_line Slot.Unnamed = 7
