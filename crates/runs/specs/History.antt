-- The key history of a key set: the keys that the starting keys and the GOOD key commands since say are valid, by version. It has no
-- mask, no place and no byte of a later record; who shares which set is read from the starting table. docs/RULES.md, 7.3.
use Rattle.std.specs.Prelude.{◌≡◌, Bool, true, false, List, [], ◌∷◌, ◌++◌, ℕ, ◌<◌, eqb, replicate}
use Rattle.std.proofs.Math.Option.{Option, none, some}
use Rattle.choice.specs.Choice.{both, pick}
use Rattle.hmac.specs.Hmac.{hmac, by_sha1}
use Rattle.model.specs.Protocol.{protocol_out, seed_exchange, set_key, change_master}
use Rattle.model.specs.Rows.{is_master}
use Rattle.model.specs.Answers.{is_a}
use Rattle.units.specs.Unit.{step, identifier, auth_key_of, gen_key_of, next_auth_key, next_gen_key, is_valid, working_key, keeper_of, key_set_of}
use Rattle.judge.specs.Command.{code_of, page_of, need_for, is_change, descriptor_of}
use Rattle.judge.specs.Descriptor.{key_version}
use Rattle.judge.specs.Checked.{Checked}
use Rattle.pages.specs.Out.{new_version, seed, agreed}
use Rattle.pages.specs.Effects.{last_flipped}
use Rattle.calls.specs.Outcome.{Tables}
use Rattle.calls.specs.Whole.{Asked}
use Rattle.runs.specs.Run.{Event}
use Rattle.runs.specs.Ledger.{Done, dones, starts}
use Prim.{Unit}

pub record KeySet : Type 0 where
  pub name : List ℕ
  pub auth : List ℕ
  pub generation : List ℕ
  pub next_auth : List ℕ
  pub next_generation : List ℕ
  pub pending : Bool
  -- the valid working key of a version
  pub working : ℕ → Option (List ℕ)

-- the keys of a starting record
abbrev pub start_keys : List ℕ → KeySet
start_keys rec =
    record {
      name = identifier rec;
      auth = auth_key_of rec;
      generation = gen_key_of rec;
      next_auth = next_auth_key rec;
      next_generation = next_gen_key rec;
      pending = eqb (step rec) 1;
      working = λ v. pick (is_valid v rec) (some (working_key v rec)) none;
    }

-- Set Key: the version's key is HMAC under the generation master key over the seed
abbrev pub version_set : ℕ → List ℕ → KeySet → KeySet
version_set v s k =
    record {
      name = k.name;
      auth = k.auth;
      generation = k.generation;
      next_auth = k.next_auth;
      next_generation = k.next_generation;
      pending = k.pending;
      working = λ w. pick (eqb w v) (some (hmac by_sha1 k.generation s)) (k.working w);
    }

-- Seed Exchange, with the agreed value: the next pair from S, and from S with the lowest bit of its last byte inverted
abbrev pub seed_exchanged : List ℕ → KeySet → KeySet
seed_exchanged value k =
    record {
      name = k.name;
      auth = k.auth;
      generation = k.generation;
      next_auth = hmac by_sha1 k.generation (last_flipped (value ++ k.name));
      next_generation = hmac by_sha1 k.generation (value ++ k.name);
      pending = true;
      working = k.working;
    }

-- Change: the next pair is the pair, and no working key is valid
abbrev pub master_changed : KeySet → KeySet
master_changed k =
    record {
      name = k.name;
      auth = k.next_auth;
      generation = k.next_generation;
      next_auth = replicate 20 0;
      next_generation = replicate 20 0;
      pending = false;
      working = λ v. none;
    }

-- a GOOD command with its parameter list, by its page; Set Attributes and any other page leave the keys alone
unfoldable pub key_command : ℕ → List ℕ → KeySet → KeySet
key_command page d k =
    pick (eqb page set_key) (version_set (new_version d) (seed d) k)
    (pick (eqb page seed_exchange) (seed_exchanged (agreed d) k)
    (pick (eqb page change_master) (master_changed k)
    k))

-- is it a GOOD SECURITY PROTOCOL OUT at a unit with the same key set as unit u? By the starting unit table, since no open, close, abort or
-- reset changes who keeps keys (Shared: `field_fixed`)
abbrev pub is_key_command : List ℕ → ℕ → Done → Bool
is_key_command units u x =
    both (eqb (keeper_of units x.what.unit) (keeper_of units u)) (both (eqb (code_of x.what.command) protocol_out) (is_a 0 x.answer))

-- the keys after each whole command
abbrev pub history : List ℕ → ℕ → KeySet → List Done → KeySet
history units u k [] = k
history units u k (x ∷ xs) = history units u (pick (is_key_command units u x) (key_command (page_of x.what.command) x.sent k) k) xs

-- the keys of unit u's key set after the events es from the tables t
abbrev pub keys_before : Tables → List Event → ℕ → KeySet
keys_before t es u = history t.units u (start_keys (key_set_of t.units u)) (dones (starts t.slots) es)

-- is it a GOOD Set Key of version v in unit u's key set?
abbrev pub sets_version : List ℕ → ℕ → ℕ → Done → Bool
sets_version units u v x = both (is_key_command units u x) (both (eqb (page_of x.what.command) set_key) (eqb v (new_version x.sent)))

-- none of them is
abbrev pub NoneSets : List ℕ → ℕ → ℕ → List Done → Type 0
NoneSets units u v [] = Unit
NoneSets units u v (x ∷ xs) = (sets_version units u v x ≡ false) × NoneSets units u v xs

-- the key that the history says is valid for a command: a working row takes the version's; a master row wants version 0 and the
-- authentication master key; Change wants version 0, a pending exchange and the next authentication master key
unfoldable pub key_said : KeySet → Bool → Bool → ℕ → Option (List ℕ)
key_said k master change v =
    pick master
    (pick (both (eqb v 0) (pick change k.pending true)) (some (pick change k.next_auth k.auth)) none)
    (k.working v)

abbrev pub key_for : KeySet → List ℕ → Option (List ℕ)
key_for keys c = key_said keys (is_master (need_for c)) (is_change c) (key_version (descriptor_of c))

-- every check, against the unit's record, with a key that the key set says is valid
pub record CheckedBy (own : List ℕ) (keys : KeySet) (k : Asked) (clock : ℕ) : Type 0 where
  pub key : List ℕ
  pub valid : key_for keys k.command ≡ some key
  pub checks : Checked own key k.command k.token clock

-- a record says what a key set says
pub record Says (k : KeySet) (rec : List ℕ) : Type 0 where
  pub name : k.name ≡ identifier rec
  pub auth : k.auth ≡ auth_key_of rec
  pub generation : k.generation ≡ gen_key_of rec
  pub next_auth : k.next_auth ≡ next_auth_key rec
  pub next_generation : k.next_generation ≡ next_gen_key rec
  pub pending : k.pending ≡ eqb (step rec) 1
  pub working : (v : ℕ) → v < 16 → k.working v ≡ pick (is_valid v rec) (some (working_key v rec)) none
