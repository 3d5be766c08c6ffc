-- How long the parameter list of each Out page is (document 01, "Pages"). docs/RULES.md, 6.1.
use Rattle.std.specs.Prelude.{ℕ, eqb}
use Rattle.choice.specs.Choice.{pick}
use Rattle.model.specs.Protocol.{set_attributes, seed_exchange, set_key, change_master}

-- total bytes: Set Attributes, Set Key, Seed Exchange, Change; 0 for a page that is none of them
unfoldable pub total_of : ℕ → ℕ
total_of page =
    pick (eqb page set_attributes) 12
    (pick (eqb page set_key) 28
    (pick (eqb page seed_exchange) 264
    (pick (eqb page change_master) 4
    0)))
