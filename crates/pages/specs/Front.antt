-- What stands at the front of a parameter list (document 01, "Pages"): page code, page length, and three numbers of the page's own widths.
-- docs/RULES.md, 6.1.
use Rattle.std.specs.Prelude.{◌≡◌, List, ℕ, ◌+◌, eqb}
use Rattle.choice.specs.Choice.{pick}
use Rattle.wire.specs.Bytes.{number}
use Rattle.model.specs.Protocol.{set_attributes, seed_exchange, set_key}

-- page code, page length, the three numbers, and where the run of bytes behind them starts
pub record Front : Type 0 where
  pub page : ℕ
  pub length : ℕ
  pub first : ℕ
  pub second : ℕ
  pub third : ℕ
  pub run : ℕ

-- f is what a reader finds in l, one field behind another, where the three numbers have a, b and c bytes
pub record AtFront (l : List ℕ) (a b c : ℕ) (f : Front) : Type 0 where
  pub page_read : f.page ≡ number 2 0 l
  pub length_read : f.length ≡ number 2 2 l
  pub first_read : f.first ≡ number a 4 l
  pub second_read : f.second ≡ number b (4 + a) l
  pub third_read : f.third ≡ number c (4 + a + b) l
  pub run_reached : f.run ≡ 4 + a + b + c

-- how wide each is, by the page. Set Attributes: method, tag, zeros; Set Key: version, zeros; Seed Exchange: group, zeros. What a page does
-- not have has no bytes
unfoldable pub first_width : ℕ → ℕ
first_width page = pick (eqb page set_attributes) 2 (pick (eqb page set_key) 1 (pick (eqb page seed_exchange) 2 0))

unfoldable pub second_width : ℕ → ℕ
second_width page = pick (eqb page set_attributes) 4 (pick (eqb page set_key) 3 (pick (eqb page seed_exchange) 2 0))

unfoldable pub third_width : ℕ → ℕ
third_width page = pick (eqb page set_attributes) 2 0

-- what stands at the front of a list of the page
abbrev pub FrontOf : ℕ → List ℕ → Front → Type 0
FrontOf page l f = AtFront l (first_width page) (second_width page) (third_width page) f
