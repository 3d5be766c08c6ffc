-- What a GOOD Out page makes of a unit's attributes and of a key set (document 01, "Pages", Effects): all that is not named is kept, and
-- the check is made anew. docs/RULES.md, 6.2.
use Rattle.std.specs.Prelude.{List, [], ◌∷◌, ◌++◌, ℕ, ◌+◌, ◌-◌, ◌/◌, ◌%◌, ◌^◌, eqb}
use Rattle.choice.specs.Choice.{pick}
use Rattle.hmac.specs.Hmac.{hmac, by_sha1}
use Rattle.seal.specs.Seal.{seal}
use Rattle.model.specs.Protocol.{seed_exchange, set_key, change_master}
use Rattle.units.specs.Unit.{mask, identifier, gen_key_of, next_auth_key, next_gen_key, with_method, with_mask, with_tag, with_step, with_pair, with_next_pair, with_working_key, without_next_and_working}
use Rattle.pages.specs.Out.{new_version, seed, agreed}

-- Set Attributes: method and tag
unfoldable pub attributes_set : ℕ → ℕ → List ℕ → List ℕ
attributes_set m t rec = seal (with_tag t (with_method m rec))

-- the mask with version v's bit set
unfoldable pub with_bit : ℕ → ℕ → ℕ
with_bit v m = pick (eqb (m / 2 ^ v % 2) 1) m (m + 2 ^ v)

-- Set Key: the working key is HMAC under the generation master key over the seed, and its mask bit is set
unfoldable pub working_key_set : ℕ → List ℕ → List ℕ → List ℕ
working_key_set v s rec = seal (with_working_key v (hmac by_sha1 (gen_key_of rec) s) (with_mask (with_bit v (mask rec)) rec))

-- the lowest bit of a byte inverted, and of a list's last byte
abbrev pub flipped : ℕ → ℕ
flipped x = pick (eqb (x % 2) 1) (x - 1) (x + 1)

abbrev pub last_flipped : List ℕ → List ℕ
last_flipped [] = []
last_flipped (x ∷ []) = flipped x ∷ []
last_flipped (x ∷ y ∷ ys) = x ∷ last_flipped (y ∷ ys)

-- S is the agreed value then the identifier of the unit that keeps the keys (02, K4); next generation key is HMAC under the current
-- generation master key over S, next authentication key the same over S with the lowest bit of its last byte inverted
unfoldable pub next_gen : List ℕ → List ℕ → List ℕ
next_gen value rec = hmac by_sha1 (gen_key_of rec) (value ++ identifier rec)

unfoldable pub next_auth : List ℕ → List ℕ → List ℕ
next_auth value rec = hmac by_sha1 (gen_key_of rec) (last_flipped (value ++ identifier rec))

-- Seed Exchange: the next pair, in the order that the record has, and step 1
unfoldable pub exchanged : List ℕ → List ℕ → List ℕ
exchanged value rec = seal (with_next_pair (next_auth value rec) (next_gen value rec) (with_step 1 rec))

-- Change: next pair becomes the pair, next and working keys zero, mask 0, step 0
unfoldable pub changed : List ℕ → List ℕ
changed rec = seal (without_next_and_working (with_pair (next_auth_key rec) (next_gen_key rec) (with_step 0 (with_mask 0 rec))))

-- what a page with the parameter list d makes of a key set: Set Key, Seed Exchange and Change make its record anew, and any other page
-- leaves it alone
unfoldable pub new_keys : ℕ → List ℕ → List ℕ → List ℕ
new_keys page d keys =
    pick (eqb page set_key) (working_key_set (new_version d) (seed d) keys)
    (pick (eqb page seed_exchange) (exchanged (agreed d) keys)
    (pick (eqb page change_master) (changed keys)
    keys))
