-- Laws of a used unit's record: the fields that it is made of come back, its bytes are those that its fields give, a unit as it is built
-- is used by its own bytes, and the writer's steps make its record.
use Rattle.std.specs.Prelude.{◌≡◌, Bool, leb, length, replicate}
use Rattle.std.proofs.Math.Path.{refl, sym, ap}
use Rattle.std.proofs.Common.{◌∙◌, inr, arith, length-append, length-take, length-drop, take-append-drop}
use Rattle.std.proofs.Math.Bool.{true, false}
use mathlib.Core.List.{List, [], ◌++◌, append_assoc, append-nil}
use Prim.Native.Nat.{ℕ, zero, suc, ◌+◌, ◌*◌, ◌^◌, ◌≤◌, ◌<◌}
use Rattle.std.proofs.Math.Dec.{eqb}
use Rattle.std.proofs.Math.ListN.{drop}
use Rattle.std.proofs.lemmas.List.{length-replicate}
use borrow.Author.Tests.{eq-eqb, le-leb}
use Rattle.choice.specs.Choice.{both, either}
use Rattle.choice.specs.ChoiceLaws.{either_right, pick_holds}
use Rattle.wire.specs.Bytes.{AreBytes, part, number, bytes_of, zeros, patch}
use Rattle.wire.proofs.PatchLaws.{length_patch, part_same, part_join, parts_same, part_next, patch_join}
use Rattle.wire.proofs.NumberLaws.{bytes_length, bytes_number, number_below, number_part}
use Rattle.wire.proofs.ZeroLaws.{zeros_outside, zeros_part, zeros_of, zeros_join, zeros_within, number_zeros}
use Rattle.seal.specs.Seal.{checked, seal, blank}
use Rattle.seal.specs.SealLaws.{seal_length, seal_part, seal_zeros, seal_checked, checked_same}
use Rattle.seal.specs.BlankLaws.{blank_length, blank_run, blank_longer}
use Rattle.units.specs.declared.UnitState.TheVariants.{Used}
use Rattle.units.specs.Unit.{layout, unit_number, method, mask, policy_tag, step, identifier, auth_key_of, gen_key_of, next_auth_key, next_gen_key}
use Rattle.units.specs.Unit.{next_pair_zero, is_valid, keys_zero, keeper_field, no_keys, keeper_shape, unnamed_zero, used_shape, unit_state_of}
use Rattle.units.specs.Fields.{Fields, fields_of, used_body, used_record, own_key, built}
use Rattle.units.proofs.UnitLaws.{used_sound}

-- numbers that fit their bytes, and lists as long as their places
pub record Fit (f : Fields) : Type 0 where
  pub number_fits : f.number < 65536
  pub method_fits : f.method_number < 65536
  pub mask_fits : f.valid_mask < 65536
  pub tag_fits : f.tag < 2 ^ 32
  pub step_fits : f.step_number < 2 ^ 32
  pub name_length : length f.name ≡ 16
  pub auth_length : length f.auth ≡ 20
  pub generation_length : length f.generation ≡ 20
  pub next_auth_length : length f.next_auth ≡ 20
  pub next_generation_length : length f.next_generation ≡ 20
  pub working_length : length f.working ≡ 320
  pub keeper_fits : f.keeper < 65536

-- what stands in each place of a record that starts with the fields
record Pieces (f : Fields) (l : List ℕ) : Type 0 where
  layout_bytes : part 0 2 l ≡ bytes_of 2 1
  number_bytes : part 2 2 l ≡ bytes_of 2 f.number
  method_bytes : part 4 2 l ≡ bytes_of 2 f.method_number
  mask_bytes : part 6 2 l ≡ bytes_of 2 f.valid_mask
  tag_bytes : part 8 4 l ≡ bytes_of 4 f.tag
  step_bytes : part 12 4 l ≡ bytes_of 4 f.step_number
  name_bytes : part 16 16 l ≡ f.name
  auth_bytes : part 32 20 l ≡ f.auth
  generation_bytes : part 52 20 l ≡ f.generation
  next_auth_bytes : part 72 20 l ≡ f.next_auth
  next_generation_bytes : part 92 20 l ≡ f.next_generation
  working_bytes : part 112 320 l ≡ f.working
  keeper_bytes : part 432 2 l ≡ bytes_of 2 f.keeper

module _ (f : Fields) (fit : Fit f) where
  body_length_lem : length (used_body f) ≡ 434
  unfolding used_body
  body_length_lem = simp (length-append, bytes_length) (omega arith)

  fits : 0 + length (used_body f) ≤ length blank
  fits = rw (body_length_lem, blank_length) (omega arith)

  filled : length (patch blank 0 (used_body f)) ≡ 512
  filled = length_patch blank 0 (used_body f) fits ∙ blank_length

  pub used_length : length (used_record f) ≡ 512
  unfolding used_record
  used_length = seal_length (patch blank 0 (used_body f)) filled

  used_checked : checked (used_record f) ≡ true
  unfolding used_record
  used_checked = seal_checked (patch blank 0 (used_body f)) filled

  used_front : part 0 434 (used_record f) ≡ used_body f
  unfolding used_record
  used_front =
      seal_part (patch blank 0 (used_body f)) filled 0 434 (omega arith)
      ∙ ap (λ (n : ℕ). part 0 n (patch blank 0 (used_body f))) (sym body_length_lem)
      ∙ part_same blank 0 (used_body f) fits

  used_unnamed : zeros 58 434 (used_record f) ≡ true
  unfolding used_record
  used_unnamed =
      seal_zeros (patch blank 0 (used_body f)) filled 58 434 (omega arith)
      (zeros_outside blank 0 (used_body f) fits 58 434 (inr (omega (arith, body_length_lem))) (blank_run 58 434 (omega arith)))

  used_pieces : Pieces f (used_record f)
  unfolding used_body
  used_pieces =
      let l : List ℕ = used_record f in
      let z : List ℕ = drop 434 l in
      let whole : l ≡ used_body f ++ z = sym (take-append-drop 434 l) ∙ ap (λ (x : List ℕ). x ++ z) used_front in
      let p₀ = part_next 0 2 l (bytes_of 2 1) _ z (bytes_length 2 1) whole in
      let p₁ = part_next 2 2 l (bytes_of 2 f.number) _ z (bytes_length 2 f.number) p₀.1 in
      let p₂ = part_next 4 2 l (bytes_of 2 f.method_number) _ z (bytes_length 2 f.method_number) p₁.1 in
      let p₃ = part_next 6 2 l (bytes_of 2 f.valid_mask) _ z (bytes_length 2 f.valid_mask) p₂.1 in
      let p₄ = part_next 8 4 l (bytes_of 4 f.tag) _ z (bytes_length 4 f.tag) p₃.1 in
      let p₅ = part_next 12 4 l (bytes_of 4 f.step_number) _ z (bytes_length 4 f.step_number) p₄.1 in
      let p₆ = part_next 16 16 l f.name _ z fit.name_length p₅.1 in
      let p₇ = part_next 32 20 l f.auth _ z fit.auth_length p₆.1 in
      let p₈ = part_next 52 20 l f.generation _ z fit.generation_length p₇.1 in
      let p₉ = part_next 72 20 l f.next_auth _ z fit.next_auth_length p₈.1 in
      let p₁₀ = part_next 92 20 l f.next_generation _ z fit.next_generation_length p₉.1 in
      let p₁₁ = part_next 112 320 l f.working _ z fit.working_length p₁₀.1 in
      let field : List ℕ = bytes_of 2 f.keeper in
      let last : drop 432 l ≡ (field ++ []) ++ z = p₁₁.1 ∙ ap (λ (x : List ℕ). x ++ z) (sym (append-nil field)) in
      let p₁₂ = part_next 432 2 l field [] z (bytes_length 2 f.keeper) last in
      record {
        layout_bytes = p₀.0;
        number_bytes = p₁.0;
        method_bytes = p₂.0;
        mask_bytes = p₃.0;
        tag_bytes = p₄.0;
        step_bytes = p₅.0;
        name_bytes = p₆.0;
        auth_bytes = p₇.0;
        generation_bytes = p₈.0;
        next_auth_bytes = p₉.0;
        next_generation_bytes = p₁₀.0;
        working_bytes = p₁₁.0;
        keeper_bytes = p₁₂.0;
      }

  used_layout : number 2 0 (used_record f) ≡ 1
  used_layout = number_part 2 0 1 (used_record f) (omega arith) used_pieces.layout_bytes

  -- what is encoded comes back
  pub used_fields : fields_of (used_record f) ≡ f
  unfolding unit_number method mask policy_tag step identifier auth_key_of gen_key_of next_auth_key next_gen_key keeper_field
  used_fields =
      let l : List ℕ = used_record f in
      let p = used_pieces in
      rw (
        number_part 2 2 f.number l (omega arith) p.number_bytes,
        number_part 2 4 f.method_number l (omega arith) p.method_bytes,
        number_part 2 6 f.valid_mask l (omega arith) p.mask_bytes,
        number_part 4 8 f.tag l (omega arith) p.tag_bytes,
        number_part 4 12 f.step_number l (omega arith) p.step_bytes,
        p.name_bytes,
        p.auth_bytes,
        p.generation_bytes,
        p.next_auth_bytes,
        p.next_generation_bytes,
        p.working_bytes,
        number_part 2 432 f.keeper l (omega arith) p.keeper_bytes,
      )

-- ---- a record that is found: its fields fit, and its bytes are those that they give

module _ (rec : List ℕ) (full : length rec ≡ 512) (small : AreBytes rec) where
  part_length : (a n : ℕ) → a + n ≤ 512 → length (part a n rec) ≡ n
  part_length a n h = simp (length-take, length-drop) (omega arith)

  pub fields_fit : Fit (fields_of rec)
  unfolding unit_number method mask policy_tag step identifier auth_key_of gen_key_of next_auth_key next_gen_key keeper_field
  fields_fit =
      record {
        number_fits = number_below 2 2 rec small;
        method_fits = number_below 2 4 rec small;
        mask_fits = number_below 2 6 rec small;
        tag_fits = number_below 4 8 rec small;
        step_fits = number_below 4 12 rec small;
        name_length = part_length 16 16 (omega arith);
        auth_length = part_length 32 20 (omega arith);
        generation_length = part_length 52 20 (omega arith);
        next_auth_length = part_length 72 20 (omega arith);
        next_generation_length = part_length 92 20 (omega arith);
        working_length = part_length 112 320 (omega arith);
        keeper_fits = number_below 2 432 rec small;
      }

  -- the fields one behind another, where the layout is 1
  found_body : layout rec ≡ 1 → used_body (fields_of rec) ≡ part 0 434 rec
  unfolding used_body layout unit_number method mask policy_tag step identifier auth_key_of gen_key_of next_auth_key next_gen_key keeper_field
  found_body one =
      join 0 2 432 (ap (bytes_of 2) (sym one) ∙ bytes 2 0 (omega arith))
      (join 2 2 430 (bytes 2 2 (omega arith))
      (join 4 2 428 (bytes 2 4 (omega arith))
      (join 6 2 426 (bytes 2 6 (omega arith))
      (join 8 4 422 (bytes 4 8 (omega arith))
      (join 12 4 418 (bytes 4 12 (omega arith))
      (join 16 16 402 refl
      (join 32 20 382 refl
      (join 52 20 362 refl
      (join 72 20 342 refl
      (join 92 20 322 refl
      (join 112 320 2 refl (bytes 2 432 (omega arith)))))))))))))
    where
      bytes : (n a : ℕ) → a + n ≤ 512 → bytes_of n (number n a rec) ≡ part a n rec
      bytes n a h = bytes_number n a rec small (omega arith)

      join : (a n m : ℕ) {xs ys : List ℕ} → xs ≡ part a n rec → ys ≡ part (a + n) m rec → xs ++ ys ≡ part a (n + m) rec
      join a n m {xs} {ys} ex ey = part_join a n m rec xs ys ex ey

-- layout 1, zeros in the unnamed bytes, and the check leave no other bytes
pub used_record_lem : (u : ℕ) (rec : List ℕ) → length rec ≡ 512 → AreBytes rec → unit_state_of u rec ≡ Used → used_record (fields_of rec) ≡ rec
unfolding unnamed_zero
used_record_lem u rec full small e =
    let s = used_sound u rec e in
    let f : Fields = fields_of rec in
    let fit : Fit f = fields_fit rec full small in
    let l : List ℕ = used_record f in
    let long : length l ≡ 512 = used_length f fit in
    let front : part 0 434 l ≡ part 0 434 rec = used_front f fit ∙ found_body rec full small s.used in
    let unnamed : part 434 58 l ≡ part 434 58 rec =
    zeros_part 58 434 l (omega arith) (used_unnamed f fit) ∙ sym (zeros_part 58 434 rec (omega arith) s.unnamed) in
    checked_same l rec long full (used_checked f fit) s.check
    (parts_same 0 434 58 l rec front unnamed)

-- ---- a unit as it is built

-- the numbers at the front of a built unit, and its fields up to the next pair, where zeros begin
abbrev built_numbers : ℕ → ℕ → ℕ → List ℕ
built_numbers u m t = bytes_of 2 1 ++ (bytes_of 2 u ++ (bytes_of 2 m ++ (bytes_of 2 0 ++ (bytes_of 4 t ++ bytes_of 4 0))))

unfoldable built_body : ℕ → ℕ → ℕ → List ℕ → List ℕ → List ℕ → List ℕ
built_body u m t id auth gen = built_numbers u m t ++ (id ++ (auth ++ gen))

-- where zeros stand in the place of all keys, those that are not valid are zero
keys_none : (v : ℕ) (l : List ℕ) → v ≤ 16 → zeros 320 112 l ≡ true → keys_zero v l ≡ true
unfolding keys_zero
keys_none zero l h z = refl
keys_none (suc v) l h z =
    rw (keys_none v l (omega arith) z, zeros_within 320 112 20 (112 + 20 * v) l (omega arith) (omega arith) z)
    (either_right (is_valid v l) true refl)

own_key_length : (k : ℕ) (key : List ℕ) → length key ≡ 20 → length (own_key k key) ≡ 20
own_key_length k key h = pick_holds (λ (x : List ℕ). length x ≡ 20) (eqb k 0) key (replicate 20 0) h refl

module _ (u m t : ℕ) (id auth gen : List ℕ) (k : ℕ) (hi : length id ≡ 16) (ha : length auth ≡ 20) (hg : length gen ≡ 20) where
  front : List ℕ
  front = built_body u m t id (own_key k auth) (own_key k gen)

  front_length : length front ≡ 72
  unfolding front built_body
  front_length =
      let a = own_key_length k auth ha in
      let g = own_key_length k gen hg in
      simp (length-append, bytes_length) (omega arith)

  -- the fields of a built unit: the first ones, zeros in the place of all further keys, and whose keys
  built_parts : used_body (built u m t id auth gen k) ≡ (front ++ replicate 360 0) ++ bytes_of 2 k
  unfolding used_body front built_body
  built_parts = simp append_assoc

  module _ (hu : u < 65536) (hm : m < 65536) (ht : t < 2 ^ 32) (hk : k < 65536) where
    pub built_fit : Fit (built u m t id auth gen k)
    built_fit =
        record {
          number_fits = hu;
          method_fits = hm;
          mask_fits = omega arith;
          tag_fits = ht;
          step_fits = omega arith;
          name_length = hi;
          auth_length = own_key_length k auth ha;
          generation_length = own_key_length k gen hg;
          next_auth_length = refl;
          next_generation_length = refl;
          working_length = length-replicate {A = ℕ} 320 0;
          keeper_fits = hk;
        }

    rec : List ℕ
    rec = used_record (built u m t id auth gen k)

    pieces : Pieces (built u m t id auth gen k) rec
    unfolding rec
    pieces = used_pieces (built u m t id auth gen k) built_fit

    -- zeros from 72 to 431
    pair_zero : zeros 40 72 rec ≡ true
    pair_zero =
        zeros_join 20 20 72 rec (zeros_of 20 72 rec pieces.next_auth_bytes) (zeros_of 20 92 rec pieces.next_generation_bytes)

    working_zero : zeros 320 112 rec ≡ true
    working_zero = zeros_of 320 112 rec pieces.working_bytes

    first_two : number 2 0 rec ≡ 1
    unfolding rec
    first_two = used_layout (built u m t id auth gen k) built_fit

    -- its layout is not zero
    not_blank : (b : Bool) → zeros 492 0 rec ≡ b → zeros 492 0 rec ≡ false
    not_blank false e = e
    not_blank true e =
        let z : number 2 0 rec ≡ 0 = number_zeros 2 0 rec (zeros_within 492 0 2 0 rec (omega arith) (omega arith) e) in
        let f : ⊥ = omega (arith, first_two, z) in
        absurd f

    its_fields : fields_of rec ≡ built u m t id auth gen k
    unfolding rec
    its_fields = used_fields (built u m t id auth gen k) built_fit

    its_step : step rec ≡ 0
    its_step = ap (λ (x : Fields). x.step_number) its_fields

    its_keeper : keeper_field rec ≡ k
    its_keeper = ap (λ (x : Fields). x.keeper) its_fields

    -- a sharer has no keys
    sharer_no_keys : eqb k 0 ≡ false → no_keys rec ≡ true
    unfolding no_keys
    sharer_no_keys e =
        let auth-zero = zeros_of 20 32 rec (pieces.auth_bytes ∙ rw e) in
        let gen-zero = zeros_of 20 52 rec (pieces.generation_bytes ∙ rw e) in
        let masters = zeros_join 20 20 32 rec auth-zero gen-zero in
        let all = zeros_join 40 360 32 rec masters (zeros_join 40 320 72 rec pair_zero working_zero) in
        rw (eq-eqb (mask rec) 0 (ap (λ (x : Fields). x.valid_mask) its_fields), eq-eqb (step rec) 0 its_step, all)

    its_keeper_shape : k ≤ 8 → keeper_shape rec ≡ true
    unfolding keeper_shape
    its_keeper_shape h = rw its_keeper (by_keeper (eqb k 0) refl)
      where
        by_keeper : (b : Bool) → eqb k 0 ≡ b → either b (both (leb k 8) (no_keys rec)) ≡ true
        by_keeper true e = refl
        by_keeper false e = rw (le-leb k 8 h, sharer_no_keys e)

    its_check : checked rec ≡ true
    unfolding rec
    its_check = used_checked (built u m t id auth gen k) built_fit

    its_unnamed : zeros 58 434 rec ≡ true
    unfolding rec
    its_unnamed = used_unnamed (built u m t id auth gen k) built_fit

    used_at_place : m ≤ 1 → k ≤ 8 → unit_state_of u rec ≡ Used
    unfolding unit_state_of used_shape layout next_pair_zero unnamed_zero
    used_at_place h hf =
        let eu : unit_number rec ≡ u = ap (λ (x : Fields). x.number) its_fields in
        let em : method rec ≡ m = ap (λ (x : Fields). x.method_number) its_fields in
        rw (
          its_check,
          not_blank (zeros 492 0 rec) refl,
          eq-eqb (number 2 0 rec) 1 first_two,
          eq-eqb (unit_number rec) u eu,
          le-leb (method rec) 1 (rw em h),
          le-leb (step rec) 1 (rw its_step (omega arith)),
          pair_zero,
          either_right (eqb (step rec) 1) true refl,
          keys_none 16 rec (omega arith) working_zero,
          its_keeper_shape hf,
          its_unnamed,
        )

    pub built_at_place : m ≤ 1 → k ≤ 8 → unit_state_of u (used_record (built u m t id auth gen k)) ≡ Used
    unfolding rec
    built_at_place h hf = used_at_place h hf

-- used at its place, by its own bytes
pub built_used : (u m t : ℕ) (id auth gen : List ℕ) (k : ℕ) → length id ≡ 16 → length auth ≡ 20 → length gen ≡ 20 → u < 65536 → m ≤ 1
    → t < 2 ^ 32 → k ≤ 8 → unit_state_of u (used_record (built u m t id auth gen k)) ≡ Used
built_used u m t id auth gen k hi ha hg hu hm ht hk = built_at_place u m t id auth gen k hi ha hg hu (omega arith) ht (omega arith) hm hk

-- ---- the writer's steps: zeros, then one field right behind another, then the check

record Filled (r x : List ℕ) (n : ℕ) : Type 0 where
  is : r ≡ patch blank 0 x
  size : length x ≡ n

fill : {r x : List ℕ} {n : ℕ} → Filled r x n → (m : ℕ) (y s : List ℕ) → length y ≡ m → n + m ≤ 512 → s ≡ patch r n y
    → Filled s (x ++ y) (n + m)
fill {r} {x} {n} k m y s hy h e =
    record {
      is =
          e ∙ ap (λ (l : List ℕ). patch l n y) k.is
          ∙ patch_join blank 0 x (rw (k.size, blank_length) (omega arith)) n y (omega (arith, k.size));
      size = length-append x y ∙ omega arith;
    }

pub numbers_steps : (u m t : ℕ) (r₀ r₁ r₂ r₃ r₄ r₅ r₆ : List ℕ) → r₀ ≡ blank → r₁ ≡ patch r₀ 0 (bytes_of 2 1)
    → r₂ ≡ patch r₁ 2 (bytes_of 2 u) → r₃ ≡ patch r₂ 4 (bytes_of 2 m) → r₄ ≡ patch r₃ 6 (bytes_of 2 0) → r₅ ≡ patch r₄ 8 (bytes_of 4 t)
    → r₆ ≡ patch r₅ 12 (bytes_of 4 0) → r₆ ≡ patch blank 0 (built_numbers u m t)
numbers_steps u m t r₀ r₁ r₂ r₃ r₄ r₅ r₆ e₀ e₁ e₂ e₃ e₄ e₅ e₆ =
    let k₁ : Filled r₁ (bytes_of 2 1) 2 = record { is = e₁ ∙ ap (λ (l : List ℕ). patch l 0 (bytes_of 2 1)) e₀; size = bytes_length 2 1 } in
    let k₂ = fill k₁ 2 (bytes_of 2 u) r₂ (bytes_length 2 u) (omega arith) e₂ in
    let k₃ = fill k₂ 2 (bytes_of 2 m) r₃ (bytes_length 2 m) (omega arith) e₃ in
    let k₄ = fill k₃ 2 (bytes_of 2 0) r₄ (bytes_length 2 0) (omega arith) e₄ in
    let k₅ = fill k₄ 4 (bytes_of 4 t) r₅ (bytes_length 4 t) (omega arith) e₅ in
    let k₆ = fill k₅ 4 (bytes_of 4 0) r₆ (bytes_length 4 0) (omega arith) e₆ in
    k₆.is ∙ ap (patch blank 0) (regrouped (bytes_of 2 1) (bytes_of 2 u) (bytes_of 2 m) (bytes_of 2 0) (bytes_of 4 t) (bytes_of 4 0))
  where
    regrouped : (a b c d e f : List ℕ) → ((((a ++ b) ++ c) ++ d) ++ e) ++ f ≡ a ++ (b ++ (c ++ (d ++ (e ++ f))))
    regrouped a b c d e f = simp append_assoc

numbers_length : (u m t : ℕ) → length (built_numbers u m t) ≡ 16
numbers_length u m t = simp (length-append, bytes_length)

pub built_steps : (u m t : ℕ) (id auth gen : List ℕ) (k : ℕ) (r₀ r₁ r₂ r₃ r₄ : List ℕ) → length id ≡ 16 → length auth ≡ 20
    → length gen ≡ 20 → r₀ ≡ patch blank 0 (built_numbers u m t) → r₁ ≡ patch r₀ 16 id → r₂ ≡ patch r₁ 32 (own_key k auth ++ own_key k gen)
    → r₃ ≡ patch r₂ 432 (bytes_of 2 k) → r₄ ≡ seal r₃ → r₄ ≡ used_record (built u m t id auth gen k)
unfolding used_record front built_body
built_steps u m t id auth gen k r₀ r₁ r₂ r₃ r₄ hi ha hg e₀ e₁ e₂ e₃ e₄ =
    let a : List ℕ = own_key k auth in
    let g : List ℕ = own_key k gen in
    let b : List ℕ = built_body u m t id a g in
    let la = own_key_length k auth ha in
    let lg = own_key_length k gen hg in
    let k₀ : Filled r₀ (built_numbers u m t) 16 = record { is = e₀; size = numbers_length u m t } in
    let k₁ = fill k₀ 16 id r₁ hi (omega arith) e₁ in
    let k₂ = fill k₁ 40 (a ++ g) r₂ (length-append a g ∙ omega arith) (omega arith) e₂ in
    let grouped : (built_numbers u m t ++ id) ++ (a ++ g) ≡ b = append_assoc (built_numbers u m t) id (a ++ g) in
    let lb : length b ≡ 72 = ap length (sym grouped) ∙ k₂.size in
    -- zeros stand in the place of all further keys
    let k₃ : Filled r₂ (b ++ replicate 360 0) 432 =
    record {
      is = k₂.is ∙ ap (patch blank 0) grouped ∙ sym (blank_longer b 360 (omega arith));
      size = length-append b (replicate 360 0) ∙ omega (arith, length-replicate {A = ℕ} 360 0);
    } in
    let k₄ = fill k₃ 2 (bytes_of 2 k) r₃ (bytes_length 2 k) (omega arith) e₃ in
    e₄ ∙ ap seal (k₄.is ∙ ap (patch blank 0) (sym (built_parts u m t id auth gen k hi ha hg)))
