-- The effects' steps: what the code reads, makes and writes one after another is what their definitions say.
use Rattle.std.specs.Prelude.{◌≡◌, ◌≢◌, refl, Bool, true, false, List, [], ◌∷◌, ◌++◌, ℕ, zero, suc, ◌+◌, ◌-◌, ◌*◌, ◌%◌, ◌<◌, eqb, length, get_or, set}
use Rattle.std.specs.Int.Bits.{bit_xor, xor_add_and}
use Rattle.std.proofs.Common.{◌∙◌, ap, arith, eqb-true}
use Rattle.std.proofs.lemmas.Nat.{and_mask}
use Rattle.std.proofs.lemmas.Bool.{eqb-false}
use Rattle.choice.specs.Choice.{pick}
use Rattle.wire.specs.Bytes.{patch}
use Rattle.wire.proofs.PatchLaws.{patch_all}
use Rattle.hmac.specs.Hmac.{hmac, by_sha1}
use Rattle.seal.specs.Seal.{seal}
use Rattle.units.specs.Unit.{mask, identifier, gen_key_of, next_auth_key, next_gen_key}
use Rattle.units.specs.Unit.{with_mask, with_step, with_pair, with_next_pair, with_working_key, without_next_and_working}
use Rattle.units.proofs.UnitLaws.{identifier_length}
use Rattle.pages.specs.Effects.{with_bit, working_key_set, flipped, last_flipped, next_auth, next_gen, exchanged, changed}

-- ---- the last byte's lowest bit

-- an exclusive or with 1 inverts it
pub xor_flipped : (x : ℕ) → bit_xor x 1 ≡ flipped x
xor_flipped x = by (eqb (x % 2) 1) refl
  where
    sum : bit_xor x 1 + x % 2 * 2 ≡ x + 1
    sum = rw (and_mask x 1) at (xor_add_and x 1)

    by : (b : Bool) → eqb (x % 2) 1 ≡ b → bit_xor x 1 ≡ pick b (x - 1) (x + 1)
    by true e = let odd : x % 2 ≡ 1 = eqb-true (x % 2) 1 e in omega (arith, sum)
    by false e = let even : x % 2 ≢ 1 = eqb-false (x % 2) 1 e in omega (arith, sum)

flip_last : (l : List ℕ) (n : ℕ) → length l ≡ suc n → set l n (flipped (get_or l n 0)) ≡ last_flipped l
flip_last [] n e = absurd (omega arith)
flip_last (x ∷ []) zero e = refl
flip_last (x ∷ []) (suc n) e = absurd (omega arith)
flip_last (x ∷ y ∷ ys) zero e = absurd (omega arith)
flip_last (x ∷ y ∷ ys) (suc n) e = ap (λ (l : List ℕ). x ∷ l) (flip_last (y ∷ ys) n (omega arith))

-- the last byte is the second part's
flip_behind : (a b : List ℕ) → 0 < length b → last_flipped (a ++ b) ≡ a ++ last_flipped b
flip_behind [] b h = refl
flip_behind (x ∷ []) [] h = absurd (omega arith)
flip_behind (x ∷ []) (y ∷ ys) h = refl
flip_behind (x ∷ z ∷ zs) b h = ap (λ (l : List ℕ). x ∷ l) (flip_behind (z ∷ zs) b h)

pub next_auth_lem : (value rec : List ℕ) → length rec ≡ 512
    → next_auth value rec ≡ hmac by_sha1 (gen_key_of rec) (value ++ last_flipped (identifier rec))
unfolding next_auth
next_auth_lem value rec full = ap (hmac by_sha1 (gen_key_of rec)) (flip_behind value (identifier rec) (omega (arith, identifier_length rec full)))

-- the identifier's sixteen bytes, copied, and the last one flipped
pub flipped_steps : (rec zs id x : List ℕ) (b : ℕ) → length rec ≡ 512 → length zs ≡ 16 → x ≡ identifier rec
    → id ≡ patch zs 0 x → b ≡ flipped (get_or id 15 0) → set id 15 b ≡ last_flipped (identifier rec)
flipped_steps rec zs id x b full lz g e f =
    let long : length (identifier rec) ≡ 16 = identifier_length rec full in
    let k : id ≡ identifier rec = rw g at e ∙ patch_all zs (identifier rec) (omega arith) in
    rw (f, k) (flip_last (identifier rec) 15 long)

-- the same where the bytes are those, and an exclusive or inverts the bit
pub xored_steps : (rec id : List ℕ) → length rec ≡ 512 → id ≡ identifier rec
    → set id 15 (bit_xor (get_or id 15 0) 1) ≡ last_flipped (identifier rec)
xored_steps rec id full e =
    rw (e, xor_flipped (get_or (identifier rec) 15 0)) (flip_last (identifier rec) 15 (identifier_length rec full))

-- ---- one setter behind another, and the check

pub key_steps : (keys s key r₁ r₂ r₃ : List ℕ) (v m b : ℕ) → m ≡ mask keys → b ≡ with_bit v m → key ≡ hmac by_sha1 (gen_key_of keys) s
    → r₁ ≡ with_mask b keys → r₂ ≡ with_working_key v key r₁ → r₃ ≡ seal r₂ → r₃ ≡ working_key_set v s keys
unfolding working_key_set
key_steps keys s key r₁ r₂ r₃ v m b em eb ek e₁ e₂ e₃ = cc

pub exchanged_steps : (keys value auth gen r₁ r₂ r₃ : List ℕ) → auth ≡ next_auth value keys → gen ≡ next_gen value keys
    → r₁ ≡ with_step 1 keys → r₂ ≡ with_next_pair auth gen r₁ → r₃ ≡ seal r₂ → r₃ ≡ exchanged value keys
unfolding exchanged
exchanged_steps keys value auth gen r₁ r₂ r₃ ea eg e₁ e₂ e₃ = cc

pub changed_steps : (keys auth gen r₁ r₂ r₃ r₄ r₅ : List ℕ) → auth ≡ next_auth_key keys → gen ≡ next_gen_key keys
    → r₁ ≡ with_mask 0 keys → r₂ ≡ with_step 0 r₁ → r₃ ≡ with_pair auth gen r₂ → r₄ ≡ without_next_and_working r₃
    → r₅ ≡ seal r₄ → r₅ ≡ changed keys
unfolding changed
changed_steps keys auth gen r₁ r₂ r₃ r₄ r₅ ea eg e₁ e₂ e₃ e₄ e₅ = cc
