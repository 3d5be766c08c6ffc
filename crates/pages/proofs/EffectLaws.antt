-- What each effect leaves of a record (document 01, "Pages", Effects): its length, that it is used at the same place by its own bytes, and
-- every field.
use Rattle.std.specs.Prelude.{◌≡◌, ◌⊎◌, Bool, true, false, List, ◌++◌, ℕ, ◌+◌, ◌*◌, ◌/◌, ◌%◌, ◌^◌, ◌≤◌, ◌<◌, ltb, length, take, replicate}
use Rattle.std.proofs.Math.Path.{refl, ap}
use Rattle.std.proofs.Common.{sym, ◌∙◌, inl, inr, length-append, take_at, drop_at}
use native.Mathlib.Omega.{arith}
use Rattle.std.proofs.Math.Nat.{add-zero, zero-div}
use Rattle.std.proofs.Math.Dec.{eqb}
use Rattle.std.proofs.lemmas.List.{length-replicate}
use Rattle.std.proofs.Math.Seq.{take_all}
use borrow.Author.Tests.{eq-eqb, eqb-true, eqb-false, ltb-true, ltb-false}
use Rattle.choice.specs.Choice.{pick}
use Rattle.choice.specs.ChoiceLaws.{either_right}
use Rattle.wire.specs.Bytes.{part, number, bytes_of, zeros, patch}
use Rattle.wire.proofs.PatchLaws.{length_patch}
use Rattle.wire.proofs.NumberLaws.{bytes_length, number_bytes, number_inside}
use Rattle.wire.proofs.ZeroLaws.{zeros_of, zeros_part, zeros_replicate}
use Rattle.hmac.specs.Hmac.{hmac, by_sha1}
use Rattle.hmac.proofs.HmacLaws.{hmac_length, sha1_lawful}
use Rattle.md.specs.Padding.{block_count}
use Rattle.units.specs.declared.UnitState.TheVariants.{Used}
use Rattle.units.specs.Unit.{method, mask, policy_tag, step, identifier, auth_key_of, gen_key_of, next_auth_key, next_gen_key, next_pair_zero}
use Rattle.units.specs.Unit.{working_key, is_valid, keeper_field, no_keys, unit_state_of}
use Rattle.model.specs.Protocol.{seed_exchange, set_key, change_master}
use Rattle.pages.specs.Out.{new_version, seed, agreed, wrong_list}
use Rattle.pages.specs.Effects.{attributes_set, with_bit, working_key_set, next_auth, next_gen, exchanged, changed, new_keys}
use Rattle.pages.proofs.OutLaws.{part_length, right_version}
use Rattle.pages.proofs.BitLaws.{with_here, with_other, bytes_bit}
use Rattle.pages.proofs.RecordLaws.{Alike, alike_trans, alike_number, alike_zeros, alike_part, narrow, patch_alike, Twice, twice_holds}
use Rattle.pages.proofs.FieldLaws.{ValidOrZero, Shape, shape_of, SameFrame, SamePolicy, SameMaster, SameNext, SameWorking}
use Rattle.pages.proofs.FieldLaws.{same_frame, same_policy, same_master, same_next, same_working}
use Rattle.pages.proofs.FieldLaws.{used_kept, known_kept, pending_kept, pair_kept, keys_kept, own_keeper, keeper_kept}

-- ---- keys of 20 bytes: an HMAC is one, and two make one patch

pub mac_length : (k m : List ℕ) → length (hmac by_sha1 k m) ≡ 20
mac_length k m = hmac_length by_sha1 20 block_count sha1_lawful k m

module _ (x y : List ℕ) (hx : length x ≡ 20) (hy : length y ≡ 20) where
  pub pair_length : length (x ++ y) ≡ 40
  pair_length = length-append x y ∙ omega arith

  first_of : part 0 20 (x ++ y) ≡ x
  first_of = take_at x y 20 hx

  second_of : part 20 20 (x ++ y) ≡ y
  second_of = ap (take 20) (drop_at x y 20 hx) ∙ take_all 20 y (omega arith)

-- ---- Set Attributes: method and tag

module _ (m t : ℕ) (rec : List ℕ) (full : length rec ≡ 512) where
  attributes : Twice rec 4 2 (bytes_of 2 m) 8 4 (bytes_of 4 t) (attributes_set m t rec)
  unfolding attributes_set
  attributes = twice_holds rec full 4 2 (bytes_of 2 m) (bytes_length 2 m) 8 4 (bytes_of 4 t) (bytes_length 4 t) (omega arith) (omega arith)

  pub attributes_length : length (attributes_set m t rec) ≡ 512
  attributes_length = attributes.full

  pub attributes_frame : SameFrame rec (attributes_set m t rec)
  attributes_frame =
      same_frame full attributes.full (narrow attributes.below (omega arith) (omega arith))
      (narrow attributes.above (omega arith) (omega arith))

  pub attributes_method : m < 65536 → method (attributes_set m t rec) ≡ m
  unfolding method
  attributes_method h = attributes.first ∙ number_bytes 2 m h

  pub attributes_tag : t < 2 ^ 32 → policy_tag (attributes_set m t rec) ≡ t
  unfolding policy_tag
  attributes_tag h = attributes.second ∙ number_bytes 4 t h

  pub attributes_master : SameMaster rec (attributes_set m t rec)
  attributes_master = same_master full attributes.full (narrow attributes.above (omega arith) (omega arith))

  pub attributes_next : SameNext rec (attributes_set m t rec)
  attributes_next =
      same_next full attributes.full (narrow attributes.above (omega arith) (omega arith))
      (narrow attributes.above (omega arith) (omega arith))

  pub attributes_working : SameWorking rec (attributes_set m t rec)
  attributes_working =
      same_working full attributes.full (narrow attributes.between (omega arith) (omega arith))
      (narrow attributes.above (omega arith) (omega arith))

  attributes_no_keys : no_keys (attributes_set m t rec) ≡ no_keys rec
  unfolding no_keys
  attributes_no_keys =
      rw (attributes_working.same_mask, attributes_next.same_step, alike_zeros attributes.above 400 32 (omega arith) (omega arith))

  pub attributes_used : (u : ℕ) → m ≤ 1 → unit_state_of u rec ≡ Used → unit_state_of u (attributes_set m t rec) ≡ Used
  attributes_used u h sound =
      let s = shape_of u rec sound in
      used_kept s attributes.sealed attributes_frame (rw (attributes_method (omega arith)) h) (pending_kept s attributes_next)
      (pair_kept s attributes_next) (keys_kept s attributes_working) (keeper_kept s attributes_frame attributes_no_keys)

-- ---- Set Key: a working key and its bit

module _ (v : ℕ) (s rec : List ℕ) (hv : v < 16) (full : length rec ≡ 512) where
  key : Twice rec 6 2 (bytes_of 2 (with_bit v (mask rec))) (112 + 20 * v) 20 (hmac by_sha1 (gen_key_of rec) s) (working_key_set v s rec)
  unfolding working_key_set
  key =
      twice_holds rec full 6 2 (bytes_of 2 (with_bit v (mask rec))) (bytes_length 2 (with_bit v (mask rec))) (112 + 20 * v) 20 (hmac by_sha1 (gen_key_of rec) s)
      (mac_length (gen_key_of rec) s) (omega arith) (omega arith)

  pub key_length : length (working_key_set v s rec) ≡ 512
  key_length = key.full

  pub key_frame : SameFrame rec (working_key_set v s rec)
  key_frame =
      same_frame full key.full (narrow key.below (omega arith) (omega arith))
      (narrow key.above (omega arith) (omega arith))

  pub key_policy : SamePolicy rec (working_key_set v s rec)
  key_policy =
      same_policy full key.full (narrow key.below (omega arith) (omega arith))
      (narrow key.between (omega arith) (omega arith))

  pub key_master : SameMaster rec (working_key_set v s rec)
  key_master = same_master full key.full (narrow key.between (omega arith) (omega arith))

  pub key_next : SameNext rec (working_key_set v s rec)
  key_next =
      same_next full key.full (narrow key.between (omega arith) (omega arith))
      (narrow key.between (omega arith) (omega arith))

  key_bit : (w : ℕ) → w < 16 → mask (working_key_set v s rec) / 2 ^ w % 2 ≡ with_bit v (mask rec) / 2 ^ w % 2
  unfolding mask
  key_bit w h = ap (λ (x : ℕ). x / 2 ^ w % 2) key.first ∙ bytes_bit w (with_bit v (mask rec)) h

  pub key_valid : is_valid v (working_key_set v s rec) ≡ true
  unfolding is_valid
  key_valid = eq-eqb _ 1 (key_bit v hv ∙ with_here v (mask rec))

  pub key_working : working_key v (working_key_set v s rec) ≡ hmac by_sha1 (gen_key_of rec) s
  unfolding working_key
  key_working =
      rw add-zero at (key.second_part 0 20 (omega arith))
      ∙ take_all 20 (hmac by_sha1 (gen_key_of rec) s) (omega (arith, mac_length (gen_key_of rec) s))

  -- every other version is as it was
  module _ (w : ℕ) (hw : w < 16) (other : w ≡ v → ⊥) where
    pub key_other_valid : is_valid w (working_key_set v s rec) ≡ is_valid w rec
    unfolding is_valid
    key_other_valid = ap (λ (x : ℕ). eqb x 1) (key_bit w hw ∙ with_other v (mask rec) w other)

    apart : (a b : Bool) → ltb w v ≡ a → ltb v w ≡ b → Alike (112 + 20 * w) (112 + 20 * w + 20) (working_key_set v s rec) rec
    apart true b e f = let h : w < v = ltb-true w v e in narrow key.between (omega arith) (omega arith)
    apart false true e f = let h : v < w = ltb-true v w f in narrow key.above (omega arith) (omega arith)
    apart false false e f = absurd (other (omega (arith, ltb-false w v e, ltb-false v w f)))

    key_other : Alike (112 + 20 * w) (112 + 20 * w + 20) (working_key_set v s rec) rec
    key_other = apart (ltb w v) (ltb v w) refl refl

    pub key_other_working : working_key w (working_key_set v s rec) ≡ working_key w rec
    unfolding working_key
    key_other_working = alike_part key_other key.full full (112 + 20 * w) 20 (omega arith) (omega arith)

    key_other_zero : zeros 20 (112 + 20 * w) (working_key_set v s rec) ≡ zeros 20 (112 + 20 * w) rec
    key_other_zero = alike_zeros key_other 20 (112 + 20 * w) (omega arith) (omega arith)

  keys_shaped : {u : ℕ} → Shape u rec → (w : ℕ) → w < 16 → (b : Bool) → eqb w v ≡ b → ValidOrZero (working_key_set v s rec) w
  keys_shaped shape w hw true e = rw (eqb-true w v e, key_valid)
  keys_shaped shape w hw false e =
      let other = eqb-false w v e in
      rw (key_other_valid w hw other, key_other_zero w hw other) (shape.keys w hw)

  pub key_used_lem : (u : ℕ) → unit_state_of u rec ≡ Used → keeper_field rec ≡ 0 → unit_state_of u (working_key_set v s rec) ≡ Used
  key_used_lem u sound own =
      let s = shape_of u rec sound in
      used_kept s key.sealed key_frame (known_kept s key_policy) (pending_kept s key_next) (pair_kept s key_next)
      (λ w hw. keys_shaped s w hw (eqb w v) refl) (own_keeper key_frame own)

  -- from a clear bit the record differs
  pub key_differs : is_valid v rec ≡ false → working_key_set v s rec ≡ rec → ⊥
  key_differs clear e = let z : true ≡ false = sym key_valid ∙ ap (is_valid v) e ∙ clear in differs z
    where
      differs : true ≡ false → ⊥
      differs z = let f : ◌≡◌ {A = ℕ} 0 1 = cc in omega arith

-- ---- Seed Exchange: the next pair, and step 1

module _ (value rec : List ℕ) (full : length rec ≡ 512) where
  pub auth_length : length (next_auth value rec) ≡ 20
  unfolding next_auth
  auth_length = mac_length (gen_key_of rec) _

  pub generation_length : length (next_gen value rec) ≡ 20
  unfolding next_gen
  generation_length = mac_length (gen_key_of rec) _

  exchange : Twice rec 12 4 (bytes_of 4 1) 72 40 (next_auth value rec ++ next_gen value rec) (exchanged value rec)
  unfolding exchanged
  exchange =
      twice_holds rec full 12 4 (bytes_of 4 1) (bytes_length 4 1) 72 40 (next_auth value rec ++ next_gen value rec)
      (pair_length (next_auth value rec) (next_gen value rec) auth_length generation_length) (omega arith) (omega arith)

  pub exchanged_length : length (exchanged value rec) ≡ 512
  exchanged_length = exchange.full

  pub exchanged_frame : SameFrame rec (exchanged value rec)
  exchanged_frame =
      same_frame full exchange.full (narrow exchange.below (omega arith) (omega arith))
      (narrow exchange.above (omega arith) (omega arith))

  pub exchanged_policy : SamePolicy rec (exchanged value rec)
  exchanged_policy =
      same_policy full exchange.full (narrow exchange.below (omega arith) (omega arith))
      (narrow exchange.below (omega arith) (omega arith))

  pub exchanged_master : SameMaster rec (exchanged value rec)
  exchanged_master = same_master full exchange.full (narrow exchange.between (omega arith) (omega arith))

  pub exchanged_working : SameWorking rec (exchanged value rec)
  exchanged_working =
      same_working full exchange.full (narrow exchange.below (omega arith) (omega arith))
      (narrow exchange.above (omega arith) (omega arith))

  pub exchanged_step : step (exchanged value rec) ≡ 1
  unfolding step
  exchanged_step = exchange.first ∙ number_bytes 4 1 (omega arith)

  pub exchanged_next_auth : next_auth_key (exchanged value rec) ≡ next_auth value rec
  unfolding next_auth_key
  exchanged_next_auth =
      exchange.second_part 0 20 (omega arith) ∙ first_of (next_auth value rec) (next_gen value rec) auth_length generation_length

  pub exchanged_next_generation : next_gen_key (exchanged value rec) ≡ next_gen value rec
  unfolding next_gen_key
  exchanged_next_generation =
      exchange.second_part 20 20 (omega arith) ∙ second_of (next_auth value rec) (next_gen value rec) auth_length generation_length

  pub exchanged_used : (u : ℕ) → unit_state_of u rec ≡ Used → keeper_field rec ≡ 0 → unit_state_of u (exchanged value rec) ≡ Used
  exchanged_used u sound own =
      let s = shape_of u rec sound in
      used_kept s exchange.sealed exchanged_frame (known_kept s exchanged_policy) (rw exchanged_step (omega arith)) (rw exchanged_step)
      (keys_kept s exchanged_working) (own_keeper exchanged_frame own)

-- ---- Change: the next pair becomes the pair; next and working keys, mask and step are zero

module _ (rec : List ℕ) (full : length rec ≡ 512) where
  unmasked : List ℕ
  unmasked = patch rec 6 (bytes_of 2 0)

  cleared : List ℕ
  cleared = patch unmasked 12 (bytes_of 4 0)

  fits_mask : 6 + length (bytes_of 2 0) ≤ length rec
  fits_mask = rw (bytes_length 2 0, full) (omega arith)

  unmasked_length : length unmasked ≡ 512
  unfolding unmasked
  unmasked_length = length_patch rec 6 (bytes_of 2 0) fits_mask ∙ full

  fits_step : 12 + length (bytes_of 4 0) ≤ length unmasked
  fits_step = rw (bytes_length 4 0, unmasked_length) (omega arith)

  cleared_length : length cleared ≡ 512
  unfolding cleared
  cleared_length = length_patch unmasked 12 (bytes_of 4 0) fits_step ∙ unmasked_length

  pub next_auth_length : length (next_auth_key rec) ≡ 20
  unfolding next_auth_key
  next_auth_length = part_length 72 20 rec (rw full (omega arith))

  pub next_generation_length : length (next_gen_key rec) ≡ 20
  unfolding next_gen_key
  next_generation_length = part_length 92 20 rec (rw full (omega arith))

  change : Twice cleared 32 40 (next_auth_key rec ++ next_gen_key rec) 72 360 (replicate 360 0) (changed rec)
  unfolding changed cleared unmasked
  change =
      twice_holds cleared cleared_length 32 40 (next_auth_key rec ++ next_gen_key rec)
      (pair_length (next_auth_key rec) (next_gen_key rec) next_auth_length next_generation_length) 72 360 (replicate 360 0)
      (length-replicate {A = ℕ} 360 0) (omega arith) (omega arith)

  pub changed_length : length (changed rec) ≡ 512
  changed_length = change.full

  -- outside mask and step
  cleared_alike : (c d : ℕ) → (d ≤ 6) ⊎ (8 ≤ c) → (d ≤ 12) ⊎ (16 ≤ c) → Alike c d cleared rec
  unfolding cleared unmasked bytes_of
  cleared_alike c d p q =
      alike_trans (patch_alike unmasked 12 (bytes_of 4 0) fits_step c d q) (patch_alike rec 6 (bytes_of 2 0) fits_mask c d p)

  -- and below the keys too
  changed_alike : (c d : ℕ) → d ≤ 32 → (d ≤ 6) ⊎ (8 ≤ c) → (d ≤ 12) ⊎ (16 ≤ c) → Alike c d (changed rec) rec
  changed_alike c d h p q = alike_trans (narrow change.below (omega arith) h) (cleared_alike c d p q)

  pub changed_frame : SameFrame rec (changed rec)
  changed_frame =
      same_frame full change.full (changed_alike 0 4 (omega arith) (inl (omega arith)) (inl (omega arith)))
      (alike_trans change.above (cleared_alike 432 492 (inr (omega arith)) (inr (omega arith))))

  pub changed_policy : SamePolicy rec (changed rec)
  changed_policy =
      same_policy full change.full (changed_alike 4 6 (omega arith) (inl (omega arith)) (inl (omega arith)))
      (changed_alike 8 12 (omega arith) (inr (omega arith)) (inl (omega arith)))

  pub changed_identifier : identifier (changed rec) ≡ identifier rec
  unfolding identifier
  changed_identifier =
      alike_part (changed_alike 16 32 (omega arith) (inr (omega arith)) (inr (omega arith))) change.full full 16 16 (omega arith) (omega arith)

  pub changed_auth : auth_key_of (changed rec) ≡ next_auth_key rec
  unfolding auth_key_of
  changed_auth = change.first_part 0 20 (omega arith) ∙ first_of (next_auth_key rec) (next_gen_key rec) next_auth_length next_generation_length

  pub changed_generation : gen_key_of (changed rec) ≡ next_gen_key rec
  unfolding gen_key_of
  changed_generation =
      change.first_part 20 20 (omega arith) ∙ second_of (next_auth_key rec) (next_gen_key rec) next_auth_length next_generation_length

  pub changed_mask : mask (changed rec) ≡ 0
  unfolding mask cleared unmasked number bytes_of
  changed_mask =
      alike_number change.below 2 6 (omega arith) (omega arith)
      ∙ alike_number (patch_alike unmasked 12 (bytes_of 4 0) fits_step 6 8 (inl (omega arith))) 2 6 (omega arith) (omega arith)
      ∙ number_inside rec 6 (bytes_of 2 0) fits_mask 2 0 (omega arith)

  pub changed_valid : (w : ℕ) → is_valid w (changed rec) ≡ false
  unfolding is_valid
  changed_valid w = rw (changed_mask, zero-div (2 ^ w))

  pub changed_step : step (changed rec) ≡ 0
  unfolding step cleared number bytes_of
  changed_step =
      alike_number change.below 4 12 (omega arith) (omega arith)
      ∙ number_inside unmasked 12 (bytes_of 4 0) fits_step 4 0 (omega arith)

  -- a run of zeros from 72 to 431
  changed_run : (i n : ℕ) → i + n ≤ 360 → part (72 + i) n (changed rec) ≡ replicate n 0
  changed_run i n h =
      change.second_part i n h ∙ zeros_part n i (replicate 360 0) (rw (length-replicate {A = ℕ} 360 0) h) (zeros_replicate 360 n i h)

  pub changed_next_auth : next_auth_key (changed rec) ≡ replicate 20 0
  unfolding next_auth_key
  changed_next_auth = changed_run 0 20 (omega arith)

  pub changed_next_generation : next_gen_key (changed rec) ≡ replicate 20 0
  unfolding next_gen_key
  changed_next_generation = changed_run 20 20 (omega arith)

  pub changed_working : (w : ℕ) → w < 16 → working_key w (changed rec) ≡ replicate 20 0
  unfolding working_key
  changed_working w h =
      let e : 72 + (40 + 20 * w) ≡ 112 + 20 * w = omega arith in
      rw e at (changed_run (40 + 20 * w) 20 (omega arith))

  pair_zero : next_pair_zero (changed rec) ≡ true
  unfolding next_pair_zero
  pair_zero = zeros_of 40 72 (changed rec) (changed_run 0 40 (omega arith))

  key_zero : (w : ℕ) → w < 16 → zeros 20 (112 + 20 * w) (changed rec) ≡ true
  unfolding working_key
  key_zero w h = zeros_of 20 (112 + 20 * w) (changed rec) (changed_working w h)

  pub changed_used : (u : ℕ) → unit_state_of u rec ≡ Used → keeper_field rec ≡ 0 → unit_state_of u (changed rec) ≡ Used
  changed_used u sound own =
      let s = shape_of u rec sound in
      used_kept s change.sealed changed_frame (known_kept s changed_policy) (rw changed_step (omega arith)) (either_right (eqb (step (changed rec)) 1) (next_pair_zero (changed rec)) pair_zero)
      (λ w h. either_right (is_valid w (changed rec)) _ (key_zero w h)) (own_keeper changed_frame own)

-- ---- whatever the page: what holds of each effect, and of the key set as it was, holds of the one that the page leaves

module _ (page : ℕ) (d keys : List ℕ) where
  picked : (P : List ℕ → Type 0) (x y : List ℕ) (p : ℕ) (b : Bool) → eqb page p ≡ b → (page ≡ p → P x) → P y → P (pick b x y)
  picked P x y p true e f g = f (eqb-true page p e)
  picked P x y p false e f g = g

  new_holds : (P : List ℕ → Type 0) → (page ≡ set_key → P (working_key_set (new_version d) (seed d) keys)) → P (exchanged (agreed d) keys)
      → P (changed keys)
      → P keys → P (new_keys page d keys)
  unfolding new_keys
  new_holds P k e c same =
      picked P _ _ set_key (eqb page set_key) refl k
      (picked P _ _ seed_exchange (eqb page seed_exchange) refl (λ h. e) (picked P _ _ change_master (eqb page change_master) refl (λ h. c) same))

  module _ (right : wrong_list page d ≡ false) (full : length keys ≡ 512) where
    pub new_length : length (new_keys page d keys) ≡ 512
    new_length =
        new_holds (λ (l : List ℕ). length l ≡ 512) (λ e. key_length (new_version d) (seed d) keys (right_version page d e right) full)
        (exchanged_length (agreed d) keys full) (changed_length keys full) full

    -- the key set of a unit with keys of its own stays used, and its own
    pub new_used : (u : ℕ) → unit_state_of u keys ≡ Used → keeper_field keys ≡ 0 → unit_state_of u (new_keys page d keys) ≡ Used
    new_used u sound own =
        new_holds (λ (l : List ℕ). unit_state_of u l ≡ Used)
        (λ e. key_used_lem (new_version d) (seed d) keys (right_version page d e right) full u sound own)
        (exchanged_used (agreed d) keys full u sound own) (changed_used keys full u sound own) sound

    pub new_field : keeper_field (new_keys page d keys) ≡ keeper_field keys
    new_field =
        new_holds (λ (l : List ℕ). keeper_field l ≡ keeper_field keys)
        (λ e. (key_frame (new_version d) (seed d) keys (right_version page d e right) full).same_field)
        (exchanged_frame (agreed d) keys full).same_field (changed_frame keys full).same_field refl
