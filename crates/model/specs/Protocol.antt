-- SECURITY PROTOCOL IN and OUT and the codes of their pages, by name (document 01, "Commands and what they need"). docs/RULES.md, 3.2.
use Rattle.std.specs.Prelude.{ℕ}

abbrev pub protocol_in : ℕ
protocol_in = 0xA2

abbrev pub protocol_out : ℕ
protocol_out = 0xB5

-- ---- IN: the pages that IN has, those that OUT has, capabilities, attributes, seed exchange, controlled commands

abbrev pub pages_of_in : ℕ
pages_of_in = 0x0000

abbrev pub pages_of_out : ℕ
pages_of_out = 0x0001

abbrev pub capabilities_in : ℕ
capabilities_in = 0x0010

abbrev pub attributes_in : ℕ
attributes_in = 0x0011

abbrev pub seed_in : ℕ
seed_in = 0x0012

abbrev pub controlled_in : ℕ
controlled_in = 0x0013

-- ---- OUT

abbrev pub set_attributes : ℕ
set_attributes = 0x0011

abbrev pub seed_exchange : ℕ
seed_exchange = 0x0012

abbrev pub set_key : ℕ
set_key = 0x0014

abbrev pub change_master : ℕ
change_master = 0x0015
