-- The key that a command is checked under, and the check (document 01, "Order of judgement", reasons 14 and 15, and "Descriptor"). It is
-- looked for in the record that keeps the unit's keys (02, K4). docs/RULES.md, 4.2, 4.3.
use Rattle.std.specs.Prelude.{Bool, true, List, ℕ, eqb}
use Rattle.choice.specs.Choice.{pick, both}
use Rattle.hmac.specs.Hmac.{Hash, hmac, by_sha1}
use Rattle.units.specs.Unit.{auth_key_of, next_auth_key, step, is_valid, working_key}
use Rattle.judge.specs.Descriptor.{algorithm}

-- is there such a key in the key set? A working row takes the version's valid key; a master row wants version 0; Change wants version 0
-- and step 1
unfoldable pub key_found : List ℕ → Bool → Bool → ℕ → Bool
key_found keys master change v = pick master (both (eqb v 0) (pick change (eqb (step keys) 1) true)) (is_valid v keys)

-- the key: the authentication master key for a master row, the next one for Change, else the version's
unfoldable pub key_used : List ℕ → Bool → Bool → ℕ → List ℕ
key_used keys master change v = pick master (pick change (next_auth_key keys) (auth_key_of keys)) (working_key v keys)

-- the hash of an algorithm; 0000 0001h is HMAC-SHA1, and reason 9 has refused every other number
abbrev pub hash_for : ℕ → Hash
hash_for n = by_sha1

-- the capability key is the HMAC under the chosen key over the 58 bytes, the validation tag the HMAC under it over the token
unfoldable pub validation_tag : Hash → List ℕ → List ℕ → List ℕ → List ℕ
validation_tag h key d token = hmac h (hmac h key d) token

-- the tag that a credential is held to: under its descriptor's algorithm
unfoldable pub tag_for : List ℕ → List ℕ → List ℕ → List ℕ
tag_for key d token = validation_tag (hash_for (algorithm d)) key d token
