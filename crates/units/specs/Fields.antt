-- A used unit's record as ordinary values: the fields that it holds, and the record that holds them (RoundLaws: each undoes the other).
-- docs/RULES.md, 2.2, 2.5.
use Rattle.std.specs.Prelude.{List, ◌++◌, ℕ, eqb, replicate}
use Rattle.choice.specs.Choice.{pick}
use Rattle.wire.specs.Bytes.{part, bytes_of, patch}
use Rattle.seal.specs.Seal.{seal, blank}
use Rattle.units.specs.Unit.{unit_number, method, mask, policy_tag, step, identifier, auth_key_of, gen_key_of, next_auth_key, next_gen_key, keeper_field}

pub record Fields : Type 0 where
  pub number : ℕ
  pub method_number : ℕ
  pub valid_mask : ℕ
  pub tag : ℕ
  pub step_number : ℕ
  pub name : List ℕ
  pub auth : List ℕ
  pub generation : List ℕ
  pub next_auth : List ℕ
  pub next_generation : List ℕ
  -- sixteen keys of 20 bytes, one behind another
  pub working : List ℕ
  -- zero for own keys, or one more than the keeper's number
  pub keeper : ℕ

abbrev pub fields_of : List ℕ → Fields
fields_of l =
    record {
      number = unit_number l;
      method_number = method l;
      valid_mask = mask l;
      tag = policy_tag l;
      step_number = step l;
      name = identifier l;
      auth = auth_key_of l;
      generation = gen_key_of l;
      next_auth = next_auth_key l;
      next_generation = next_gen_key l;
      working = part 112 320 l;
      keeper = keeper_field l;
    }

-- layout 1, then the fields in the record's order
unfoldable pub used_body : Fields → List ℕ
used_body f =
    bytes_of 2 1 ++ (bytes_of 2 f.number ++ (bytes_of 2 f.method_number ++ (bytes_of 2 f.valid_mask ++ (bytes_of 4 f.tag ++
    (bytes_of 4 f.step_number ++ (f.name ++ (f.auth ++ (f.generation ++ (f.next_auth ++ (f.next_generation ++ (f.working ++
    bytes_of 2 f.keeper)))))))))))

unfoldable pub used_record : Fields → List ℕ
used_record f = seal (patch blank 0 (used_body f))

-- a key that is asked for; zeros at a sharer, which has none of its own
abbrev pub own_key : ℕ → List ℕ → List ℕ
own_key k key = pick (eqb k 0) key (replicate 20 0)

-- a unit as it is built: mask 0, step 0, the rest as asked, no next pair and no working key; a sharer has no keys
abbrev pub built : ℕ → ℕ → ℕ → List ℕ → List ℕ → List ℕ → ℕ → Fields
built u m t id auth gen k =
    record {
      number = u;
      method_number = m;
      valid_mask = 0;
      tag = t;
      step_number = 0;
      name = id;
      auth = own_key k auth;
      generation = own_key k gen;
      next_auth = replicate 20 0;
      next_generation = replicate 20 0;
      working = replicate 320 0;
      keeper = k;
    }
