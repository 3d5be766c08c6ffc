-- Laws of the mask's bits: the bit that is set, every other as it was, and two bytes hold all sixteen.
use Rattle.std.specs.Prelude.{◌≡◌, refl, Bool, ℕ, suc, ◌+◌, ◌-◌, ◌*◌, ◌/◌, ◌%◌, ◌^◌, ◌<◌, eqb, ltb}
use Rattle.std.proofs.Common.{sym, ap, ◌∙◌, arith, mul-one, mul_assoc, pow_pos, pow-add, shr-shr, ltb-true, ltb-false, eqb-true}
use Rattle.std.proofs.Math.Bool.{true, false}
use Rattle.std.specs.Int.Bits.{bit_or, or_add_and}
use Rattle.std.proofs.lemmas.Nat.Bits.{and_pow}
use Rattle.choice.specs.Choice.{pick}
use Rattle.std.proofs.Math.Nat.{pow-succ', add-mul-div_left, add-mul-mod_self_left, div-div-eq-div-mul, pow-le-pow_right}
use Rattle.std.proofs.lemmas.Bool.{eqb-false}
use Rattle.wire.specs.Bytes.{number, bytes_of}
use Rattle.pages.specs.Effects.{with_bit}

even : (q : ℕ) → (q % 2 ≡ 1 → ⊥) → q % 2 ≡ 0
even q k = omega arith

-- a multiple of a higher power leaves bit w as it was
bit_under : (w d x k : ℕ) → (x + 2 ^ (w + suc d) * k) / 2 ^ w % 2 ≡ x / 2 ^ w % 2
bit_under w d x k =
    let e : 2 ^ (w + suc d) * k ≡ 2 ^ w * (2 * (2 ^ d * k)) =
    ap (λ (y : ℕ). y * k) (pow-add 2 w (suc d) ∙ ap (λ (y : ℕ). 2 ^ w * y) (pow-succ' 2 d)) ∙ mul_assoc (2 ^ w) (2 * 2 ^ d) k ∙ ap (λ (y : ℕ). 2 ^ w * y) (mul_assoc 2 (2 ^ d) k) in
    rw (e, add-mul-div_left x (2 * (2 ^ d * k)) (pow_pos w)) (add-mul-mod_self_left (x / 2 ^ w) 2 (2 ^ d * k))

-- a power is one more of itself
bit_at : (v x : ℕ) → (x + 2 ^ v) / 2 ^ v ≡ x / 2 ^ v + 1
bit_at v x = rw mul-one at (add-mul-div_left x 1 (pow_pos v))

-- and does not reach a higher bit where its own is clear
bit_over : (v d x : ℕ) → x / 2 ^ v % 2 ≡ 0 → (x + 2 ^ v) / 2 ^ (v + suc d) ≡ x / 2 ^ (v + suc d)
bit_over v d x z =
    halved (x + 2 ^ v) ∙ ap (λ (y : ℕ). y / 2 ^ d) (ap (λ (y : ℕ). y / 2) (bit_at v x) ∙ omega arith) ∙ sym (halved x)
  where
    halved : (y : ℕ) → y / 2 ^ (v + suc d) ≡ y / 2 ^ v / 2 / 2 ^ d
    halved y = sym (shr-shr y v (suc d)) ∙ ap (λ (p : ℕ). y / 2 ^ v / p) (pow-succ' 2 d) ∙ sym (div-div-eq-div-mul (y / 2 ^ v) 2 (2 ^ d))

module _ (v w x : ℕ) (clear : x / 2 ^ v % 2 ≡ 0) (other : w ≡ v → ⊥) where
  by_order : (a b : Bool) → ltb w v ≡ a → ltb v w ≡ b → (x + 2 ^ v) / 2 ^ w % 2 ≡ x / 2 ^ w % 2
  by_order true b e f =
      let h : w < v = ltb-true w v e in
      let n : w + suc (v - suc w) ≡ v = omega arith in
      rw (mul-one, n) at (bit_under w (v - suc w) x 1)
  by_order false true e f =
      let h : v < w = ltb-true v w f in
      let n : v + suc (w - suc v) ≡ w = omega arith in
      ap (λ (y : ℕ). y % 2) (rw n at (bit_over v (w - suc v) x clear))
  by_order false false e f = absurd (other (omega (arith, ltb-false w v e, ltb-false v w f)))

  bit_other : (x + 2 ^ v) / 2 ^ w % 2 ≡ x / 2 ^ w % 2
  bit_other = by_order (ltb w v) (ltb v w) refl refl

-- ---- what the code's shift and sum keep

pub bit_shifted : (v : ℕ) → v < 16 → 1 * 2 ^ v % 4294967296 ≡ 2 ^ v
bit_shifted v h = let k = pow-le-pow_right {n = 2} (omega arith) {i = v} {j = 15} (omega arith) in omega arith

-- the bit set by an or
pub or_bit : (v m : ℕ) → bit_or m (2 ^ v) ≡ with_bit v m
unfolding with_bit
or_bit v m = by (eqb (m / 2 ^ v % 2) 1) refl
  where
    sum : bit_or m (2 ^ v) + m / 2 ^ v % 2 * 2 ^ v ≡ m + 2 ^ v
    sum = rw (and_pow m v) at (or_add_and m (2 ^ v))

    by : (b : Bool) → eqb (m / 2 ^ v % 2) 1 ≡ b → bit_or m (2 ^ v) ≡ pick b m (m + 2 ^ v)
    by true e = let k = eqb-true (m / 2 ^ v % 2) 1 e in let s = rw k at sum in omega arith
    by false e = let k = even (m / 2 ^ v) (eqb-false (m / 2 ^ v % 2) 1 e) in let s = rw k at sum in omega arith

-- a clear bit can be added to a number of 32 bits
pub bit_fits : (v m : ℕ) → v < 16 → m < 2 ^ 32 → (m / 2 ^ v % 2 ≡ 1 → ⊥) → m + 2 ^ v < 2 ^ 32
bit_fits v m h k clear =
    let n : v + suc (31 - v) ≡ 32 = omega arith in
    let e : (m + 2 ^ v) / 2 ^ 32 ≡ m / 2 ^ 32 = rw n at (bit_over v (31 - v) m (even (m / 2 ^ v) clear)) in
    omega arith

-- ---- the mask with bit v set

module _ (v m : ℕ) where
  unset : eqb (m / 2 ^ v % 2) 1 ≡ false → m / 2 ^ v % 2 ≡ 0
  unset e = even (m / 2 ^ v) (eqb-false (m / 2 ^ v % 2) 1 e)

  here : (b : Bool) → eqb (m / 2 ^ v % 2) 1 ≡ b → with_bit v m / 2 ^ v % 2 ≡ 1
  unfolding with_bit
  here true e = rw e (eqb-true (m / 2 ^ v % 2) 1 e)
  here false e = let z = unset e in rw (e, bit_at v m) (omega arith)

  pub with_here : with_bit v m / 2 ^ v % 2 ≡ 1
  with_here = here (eqb (m / 2 ^ v % 2) 1) refl

  there : (w : ℕ) → (w ≡ v → ⊥) → (b : Bool) → eqb (m / 2 ^ v % 2) 1 ≡ b → with_bit v m / 2 ^ w % 2 ≡ m / 2 ^ w % 2
  unfolding with_bit
  there w other true e = rw e
  there w other false e = rw e (bit_other v w m (unset e) other)

  pub with_other : (w : ℕ) → (w ≡ v → ⊥) → with_bit v m / 2 ^ w % 2 ≡ m / 2 ^ w % 2
  with_other w other = there w other (eqb (m / 2 ^ v % 2) 1) refl

-- two bytes hold the bits below sixteen
pub bytes_bit : (w x : ℕ) → w < 16 → number 2 0 (bytes_of 2 x) / 2 ^ w % 2 ≡ x / 2 ^ w % 2
unfolding number bytes_of
bytes_bit w x h =
    let n : w + suc (15 - w) ≡ 16 = omega arith in
    let low : number 2 0 (bytes_of 2 x) ≡ x % 65536 = omega arith in
    let all : x % 65536 + 65536 * (x / 65536) ≡ x = omega arith in
    rw low (sym (rw (n, all) at (bit_under w (15 - w) (x % 65536) (x / 65536))))
