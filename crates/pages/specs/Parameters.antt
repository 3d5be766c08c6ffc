-- What the code reads a right parameter list into, by its page. Private contracts cite it; no promise does.
use Rattle.std.specs.Prelude.{◌≡◌, List, ℕ, drop}
use Rattle.model.specs.Protocol.{set_attributes, seed_exchange, set_key, change_master}
use Rattle.pages.specs.Out.{new_method, new_tag, new_version}
use Rattle.pages.specs.declared.lists.Parameters.{Parameters}
use Rattle.pages.specs.declared.lists.Parameters.TheVariants.{Attributes, Key, Exchange, Change}

-- p is what a list d of the page says: what stands behind eight bytes is the seed, or the agreed value
abbrev pub Says : ℕ → List ℕ → Parameters → Type 0
Says page d (Attributes a) = (page ≡ set_attributes) × (a.method ≡ new_method d) × (a.tag ≡ new_tag d)
Says page d (Key k) = (page ≡ set_key) × (k.version ≡ new_version d) × (k.seed.now ≡ drop 8 d)
Says page d (Exchange value) = (page ≡ seed_exchange) × (value.now ≡ drop 8 d)
Says page d Change = page ≡ change_master
