-- Laws of a unit record's fields: what makes a record used, and what two have in common that are alike in a run of places.
use Rattle.std.specs.Prelude.{◌≡◌, Bool, List, ℕ, zero, suc, ◌+◌, ◌*◌, ◌/◌, ◌%◌, ◌^◌, ◌≤◌, ◌<◌, leb, length}
use Rattle.std.proofs.Math.Path.{refl, ap}
use Rattle.std.proofs.Common.{◌∙◌, arith, below_none, below_more}
use Rattle.std.proofs.Math.Bool.{true, false}
use Rattle.std.proofs.Math.Dec.{eqb}
use borrow.Author.Tests.{eq-eqb, eqb-true, le-leb, leb-true}
use Rattle.choice.specs.Choice.{either, pick}
use Rattle.choice.specs.ChoiceLaws.{both_true}
use Rattle.wire.specs.Bytes.{number, zeros}
use Rattle.wire.proofs.ZeroLaws.{zeros_within, number_zeros}
use Rattle.seal.specs.Seal.{checked}
use Rattle.units.specs.declared.UnitState.TheVariants.{Unused, Used, Unsound}
use Rattle.units.specs.Unit.{layout, unit_number, method, mask, policy_tag, step, identifier, auth_key_of, gen_key_of, next_auth_key, next_gen_key}
use Rattle.units.specs.Unit.{next_pair_zero, working_key, is_valid, keys_zero, keeper_field, no_keys, keeper_shape, unnamed_zero, used_shape, unit_state_of}
use Rattle.pages.proofs.RecordLaws.{Alike, alike_number, alike_zeros, alike_part}

-- ---- used: the check, and the tests of the shape, each passed

-- the key of a version is valid or zero
abbrev pub ValidOrZero : List ℕ → ℕ → Type 0
ValidOrZero l v = either (is_valid v l) (zeros 20 (112 + 20 * v) l) ≡ true

pub record Shape (u : ℕ) (l : List ℕ) : Type 0 where
  pub first : layout l ≡ 1
  pub place : unit_number l ≡ u
  pub known : method l ≤ 1
  pub pending : step l ≤ 1
  pub pair : either (eqb (step l) 1) (next_pair_zero l) ≡ true
  pub keys : (v : ℕ) → v < 16 → ValidOrZero l v
  pub keeper : keeper_shape l ≡ true
  pub unnamed : unnamed_zero l ≡ true

keys_each : (n : ℕ) (l : List ℕ) → keys_zero n l ≡ true → (v : ℕ) → v < n → ValidOrZero l v
unfolding keys_zero
keys_each zero l e = below_none (ValidOrZero l)
keys_each (suc n) l e =
    let p = both_true (keys_zero n l) (either (is_valid n l) (zeros 20 (112 + 20 * n) l)) e in
    λ v h. below_more (ValidOrZero l) n (keys_each n l p.0) p.1 v (omega arith)

keys_all : (n : ℕ) (l : List ℕ) → ((v : ℕ) → v < n → ValidOrZero l v) → keys_zero n l ≡ true
unfolding keys_zero
keys_all zero l e = refl
keys_all (suc n) l e = rw (keys_all n l (λ v h. e v (omega arith)), e n (omega arith))

module _ (u : ℕ) (l : List ℕ) where
  of_state : (k z s : Bool) → pick k (pick z Unused (pick s Used Unsound)) Unsound ≡ Used → s ≡ true
  of_state true true s e = cc
  of_state true false true e = refl
  of_state true false false e = cc
  of_state false z s e = cc

  of_shape : used_shape u l ≡ true → Shape u l
  unfolding used_shape
  of_shape e =
      let p₁ = both_true (eqb (layout l) 1) _ e in
      let p₂ = both_true (eqb (unit_number l) u) _ p₁.1 in
      let p₃ = both_true (leb (method l) 1) _ p₂.1 in
      let p₄ = both_true (leb (step l) 1) _ p₃.1 in
      let p₅ = both_true (either (eqb (step l) 1) (next_pair_zero l)) _ p₄.1 in
      let p₆ = both_true (keys_zero 16 l) _ p₅.1 in
      let p₇ = both_true (keeper_shape l) (unnamed_zero l) p₆.1 in
      record {
        first = eqb-true (layout l) 1 p₁.0;
        place = eqb-true (unit_number l) u p₂.0;
        known = leb-true (method l) 1 p₃.0;
        pending = leb-true (step l) 1 p₄.0;
        pair = p₅.0;
        keys = keys_each 16 l p₆.0;
        keeper = p₇.0;
        unnamed = p₇.1;
      }

  pub shape_of : unit_state_of u l ≡ Used → Shape u l
  unfolding unit_state_of
  shape_of e = of_shape (of_state (checked l) (zeros 492 0 l) (used_shape u l) e)

  not_zero : layout l ≡ 1 → (b : Bool) → zeros 492 0 l ≡ b → b ≡ false
  unfolding layout
  not_zero e false z = refl
  not_zero e true z = absurd (omega (arith, e, number_zeros 2 0 l (zeros_within 492 0 2 0 l (omega arith) (omega arith) z)))

  pub used_of : checked l ≡ true → Shape u l → unit_state_of u l ≡ Used
  unfolding unit_state_of used_shape
  used_of k s =
      rw (
        k,
        not_zero s.first (zeros 492 0 l) refl,
        eq-eqb (layout l) 1 s.first,
        eq-eqb (unit_number l) u s.place,
        le-leb (method l) 1 s.known,
        le-leb (step l) 1 s.pending,
        s.pair,
        keys_all 16 l s.keys,
        s.keeper,
        s.unnamed,
      )

-- ---- groups of fields that an effect leaves as they were, with the zeros that soundness asks for

pub record SameFrame (old new : List ℕ) : Type 0 where
  pub same_layout : layout new ≡ layout old
  pub same_number : unit_number new ≡ unit_number old
  pub same_field : keeper_field new ≡ keeper_field old
  pub same_unnamed : unnamed_zero new ≡ unnamed_zero old

pub record SamePolicy (old new : List ℕ) : Type 0 where
  pub same_method : method new ≡ method old
  pub same_tag : policy_tag new ≡ policy_tag old

pub record SameMaster (old new : List ℕ) : Type 0 where
  pub same_identifier : identifier new ≡ identifier old
  pub same_auth : auth_key_of new ≡ auth_key_of old
  pub same_generation : gen_key_of new ≡ gen_key_of old

pub record SameNext (old new : List ℕ) : Type 0 where
  pub same_step : step new ≡ step old
  pub same_next_auth : next_auth_key new ≡ next_auth_key old
  pub same_next_generation : next_gen_key new ≡ next_gen_key old
  pub same_pair_zero : next_pair_zero new ≡ next_pair_zero old

pub record SameWorking (old new : List ℕ) : Type 0 where
  pub same_mask : mask new ≡ mask old
  pub same_valid : (v : ℕ) → is_valid v new ≡ is_valid v old
  pub same_key : (v : ℕ) → v < 16 → working_key v new ≡ working_key v old
  pub same_zero : (v : ℕ) → v < 16 → zeros 20 (112 + 20 * v) new ≡ zeros 20 (112 + 20 * v) old

module _ {old new : List ℕ} (full : length old ≡ 512) (long : length new ≡ 512) where
  pub same_frame : Alike 0 4 new old → Alike 432 492 new old → SameFrame old new
  unfolding layout unit_number keeper_field unnamed_zero
  same_frame p q =
      record {
        same_layout = alike_number p 2 0 (omega arith) (omega arith);
        same_number = alike_number p 2 2 (omega arith) (omega arith);
        same_field = alike_number q 2 432 (omega arith) (omega arith);
        same_unnamed = alike_zeros q 58 434 (omega arith) (omega arith);
      }

  pub same_policy : Alike 4 6 new old → Alike 8 12 new old → SamePolicy old new
  unfolding method policy_tag
  same_policy p q =
      record {
        same_method = alike_number p 2 4 (omega arith) (omega arith);
        same_tag = alike_number q 4 8 (omega arith) (omega arith);
      }

  pub same_master : Alike 16 72 new old → SameMaster old new
  unfolding identifier auth_key_of gen_key_of
  same_master p =
      record {
        same_identifier = alike_part p long full 16 16 (omega arith) (omega arith);
        same_auth = alike_part p long full 32 20 (omega arith) (omega arith);
        same_generation = alike_part p long full 52 20 (omega arith) (omega arith);
      }

  pub same_next : Alike 12 16 new old → Alike 72 112 new old → SameNext old new
  unfolding step next_auth_key next_gen_key next_pair_zero
  same_next p q =
      record {
        same_step = alike_number p 4 12 (omega arith) (omega arith);
        same_next_auth = alike_part q long full 72 20 (omega arith) (omega arith);
        same_next_generation = alike_part q long full 92 20 (omega arith) (omega arith);
        same_pair_zero = alike_zeros q 40 72 (omega arith) (omega arith);
      }

  pub same_working : Alike 6 8 new old → Alike 112 432 new old → SameWorking old new
  unfolding mask is_valid working_key
  same_working p q =
      let m : number 2 6 new ≡ number 2 6 old = alike_number p 2 6 (omega arith) (omega arith) in
      record {
        same_mask = m;
        same_valid = λ v. ap (λ (x : ℕ). eqb (x / 2 ^ v % 2) 1) m;
        same_key = λ v h. alike_part q long full (112 + 20 * v) 20 (omega arith) (omega arith);
        same_zero = λ v h. alike_zeros q 20 (112 + 20 * v) (omega arith) (omega arith);
      }

-- a used record stays used by its own bytes: what the frame leaves open is shown of the new record
module _ {u : ℕ} {old new : List ℕ} (s : Shape u old) where
  pub used_kept : checked new ≡ true → SameFrame old new → method new ≤ 1 → step new ≤ 1
      → either (eqb (step new) 1) (next_pair_zero new) ≡ true
      → ((v : ℕ) → v < 16 → ValidOrZero new v) → keeper_shape new ≡ true → unit_state_of u new ≡ Used
  used_kept sealed f hm hs hp hk hf =
      used_of u new sealed
      (record {
        first = f.same_layout ∙ s.first;
        place = f.same_number ∙ s.place;
        known = hm;
        pending = hs;
        pair = hp;
        keys = hk;
        keeper = hf;
        unnamed = f.same_unnamed ∙ s.unnamed;
      })

  -- and so are the parts of it whose fields are as they were
  pub known_kept : SamePolicy old new → method new ≤ 1
  known_kept p = rw p.same_method s.known

  pub pending_kept : SameNext old new → step new ≤ 1
  pending_kept p = rw p.same_step s.pending

  pub pair_kept : SameNext old new → either (eqb (step new) 1) (next_pair_zero new) ≡ true
  pair_kept p = rw (p.same_step, p.same_pair_zero) s.pair

  pub keys_kept : SameWorking old new → (v : ℕ) → v < 16 → ValidOrZero new v
  keys_kept p v h = rw (p.same_valid v, p.same_zero v h) (s.keys v h)

-- whose keys: a unit with keys of its own stays one, and a sharer without keys stays so where mask, step and key bytes do
pub own_keeper : {old new : List ℕ} → SameFrame old new → keeper_field old ≡ 0 → keeper_shape new ≡ true
unfolding keeper_shape
own_keeper {old} {new} f z = rw (eq-eqb (keeper_field new) 0 (f.same_field ∙ z))

pub keeper_kept : {u : ℕ} {old new : List ℕ} → Shape u old → SameFrame old new → no_keys new ≡ no_keys old → keeper_shape new ≡ true
unfolding keeper_shape
keeper_kept s f e = rw (f.same_field, e) s.keeper
