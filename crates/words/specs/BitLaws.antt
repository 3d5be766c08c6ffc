-- The machine's operations on words are those of the standard, bit by bit, and Ch and Maj by fewer operations are the standard's. An
-- identity of three numbers by AND and XOR holds where it holds of bits, so each is a table of eight rows, computed.
use Rattle.std.specs.Prelude.{◌≡◌, ℕ, zero, suc, ◌+◌, ◌-◌, ◌*◌, ◌/◌, ◌%◌, ◌^◌, ◌<◌, min, max, ◌⊎◌, bit_and, bit_or, bit_xor, [], ◌∷◌}
use Rattle.std.proofs.Math.Path.{refl, sym, ap}
use Rattle.std.proofs.Common.{ap₂, ◌∙◌, inl, inr, div-le_self, lt_of_le_of_lt}
use native.Mathlib.Omega.{arith}
use Rattle.std.specs.Int.Bits.{differ, and_step, or_step, xor_step, and_lt, xor_add_and}
use Rattle.std.proofs.lemmas.Nat.{and_shr, xor_shr, and_mod, xor_mod, xor_lt, and_comm, and_mask}
use Rattle.words.specs.Words.{bits, and32, or32, xor32, not32, rotl, ch, parity, maj, bytes32}
use Rattle.wire.specs.Bytes.{bytes_of}

-- an expression in three numbers
data Expr : Type 0 where
  X : Expr
  Y : Expr
  Z : Expr
  And : Expr → Expr → Expr
  Xor : Expr → Expr → Expr

eval : Expr → ℕ → ℕ → ℕ → ℕ
eval X x y z = x
eval Y x y z = y
eval Z x y z = z
eval (And e d) x y z = bit_and (eval e x y z) (eval d x y z)
eval (Xor e d) x y z = bit_xor (eval e x y z) (eval d x y z)

-- it goes bit by bit: its half is that of the halves, its last bit that of the last bits
eval_half : (e : Expr) (x y z : ℕ) → eval e x y z / 2 ≡ eval e (x / 2) (y / 2) (z / 2)
unfolding eval
eval_half X x y z = refl
eval_half Y x y z = refl
eval_half Z x y z = refl
eval_half (And e d) x y z = and_shr (eval e x y z) (eval d x y z) 1 ∙ ap₂ bit_and (eval_half e x y z) (eval_half d x y z)
eval_half (Xor e d) x y z = xor_shr (eval e x y z) (eval d x y z) 1 ∙ ap₂ bit_xor (eval_half e x y z) (eval_half d x y z)

eval_bit : (e : Expr) (x y z : ℕ) → eval e x y z % 2 ≡ eval e (x % 2) (y % 2) (z % 2)
unfolding eval
eval_bit X x y z = refl
eval_bit Y x y z = refl
eval_bit Z x y z = refl
eval_bit (And e d) x y z = and_mod (eval e x y z) (eval d x y z) 1 ∙ ap₂ bit_and (eval_bit e x y z) (eval_bit d x y z)
eval_bit (Xor e d) x y z = xor_mod (eval e x y z) (eval d x y z) 1 ∙ ap₂ bit_xor (eval_bit e x y z) (eval_bit d x y z)

-- the table: two expressions agree on bits
Agree : Expr → Expr → ℕ → ℕ → ℕ → Type 0
Agree e d x y z = eval e x y z ≡ eval d x y z

abbrev Table : Expr → Expr → Type 0
Table e d =
    Agree e d 0 0 0 × Agree e d 0 0 1 × Agree e d 0 1 0 × Agree e d 0 1 1
    × Agree e d 1 0 0 × Agree e d 1 0 1 × Agree e d 1 1 0 × Agree e d 1 1 1

bit : (x : ℕ) → (x % 2 ≡ 0) ⊎ (x % 2 ≡ 1)
bit x = pick (x % 2) (omega arith)
  where
    pick : (r : ℕ) → r < 2 → (r ≡ 0) ⊎ (r ≡ 1)
    pick zero h = inl refl
    pick (suc zero) h = inr refl
    pick (suc (suc r)) h = inl (omega arith)

at_bits : (e d : Expr) → Table e d → (x y z : ℕ) → (x ≡ 0) ⊎ (x ≡ 1) → (y ≡ 0) ⊎ (y ≡ 1) → (z ≡ 0) ⊎ (z ≡ 1) → Agree e d x y z
at_bits e d t x y z (inl a) (inl b) (inl c) = rw (a, b, c) t.0
at_bits e d t x y z (inl a) (inl b) (inr c) = rw (a, b, c) t.1
at_bits e d t x y z (inl a) (inr b) (inl c) = rw (a, b, c) t.2
at_bits e d t x y z (inl a) (inr b) (inr c) = rw (a, b, c) t.3
at_bits e d t x y z (inr a) (inl b) (inl c) = rw (a, b, c) t.4
at_bits e d t x y z (inr a) (inl b) (inr c) = rw (a, b, c) t.5
at_bits e d t x y z (inr a) (inr b) (inl c) = rw (a, b, c) t.6
at_bits e d t x y z (inr a) (inr b) (inr c) = rw (a, b, c) t.7

-- a number is its half and its last bit
halves : (m n : ℕ) → m / 2 ≡ n / 2 → m % 2 ≡ n % 2 → m ≡ n
halves m n h o = omega arith

by_table : (e d : Expr) → Table e d → (k x y z : ℕ) → x < 2 ^ k → y < 2 ^ k → z < 2 ^ k → eval e x y z ≡ eval d x y z
unfolding Agree
by_table e d t zero x y z hx hy hz =
    let ex : x ≡ 0 = omega arith in
    let ey : y ≡ 0 = omega arith in
    let ez : z ≡ 0 = omega arith in
    rw (ex, ey, ez) t.0
by_table e d t (suc k) x y z hx hy hz =
    halves (eval e x y z) (eval d x y z)
    (eval_half e x y z ∙ by_table e d t k (x / 2) (y / 2) (z / 2) (omega arith) (omega arith) (omega arith) ∙ sym (eval_half d x y z))
    (eval_bit e x y z ∙ at_bits e d t (x % 2) (y % 2) (z % 2) (bit x) (bit y) (bit z) ∙ sym (eval_bit d x y z))

-- ---- the operations bit by bit are the machine's

differ_bits : (a b : ℕ) → (a ≡ 0) ⊎ (a ≡ 1) → (b ≡ 0) ⊎ (b ≡ 1) → (a + b) % 2 ≡ differ a b
differ_bits a b (inl p) (inl q) = rw (p, q)
differ_bits a b (inl p) (inr q) = rw (p, q)
differ_bits a b (inr p) (inl q) = rw (p, q)
differ_bits a b (inr p) (inr q) = rw (p, q)

-- over any operation on numbers that goes by steps of a bit
module _ (op f : ℕ → ℕ → ℕ) (none : op 0 0 ≡ 0) (step : (a b : ℕ) → op a b ≡ op (a / 2) (b / 2) * 2 + f (a % 2) (b % 2)) where
  pub bits_is : (k a b : ℕ) → a < 2 ^ k → b < 2 ^ k → bits k f a b ≡ op a b
  unfolding bits
  bits_is zero a b ha hb =
      let ea : a ≡ 0 = omega arith in
      let eb : b ≡ 0 = omega arith in
      rw (ea, eb) (sym none)
  bits_is (suc k) a b ha hb =
      ap (λ (n : ℕ). n * 2 + f (a % 2) (b % 2)) (bits_is k (a / 2) (b / 2) (omega arith) (omega arith)) ∙ sym (step a b)

pub and_is : (a b : ℕ) → a < 2 ^ 32 → b < 2 ^ 32 → and32 a b ≡ bit_and a b
unfolding and32
and_is a b = bits_is bit_and min refl and_step 32 a b

pub or_is : (a b : ℕ) → a < 2 ^ 32 → b < 2 ^ 32 → or32 a b ≡ bit_or a b
unfolding or32
or_is a b = bits_is bit_or max refl or_step 32 a b

pub xor_is : (a b : ℕ) → a < 2 ^ 32 → b < 2 ^ 32 → xor32 a b ≡ bit_xor a b
unfolding xor32
xor_is a b =
    bits_is bit_xor (λ x y. (x + y) % 2) refl
    (λ x y. xor_step x y ∙ ap (λ (n : ℕ). bit_xor (x / 2) (y / 2) * 2 + n) (sym (differ_bits (x % 2) (y % 2) (bit x) (bit y)))) 32 a b

-- ---- Ch and Maj by fewer operations

-- ¬ x ∧ z is z without what it shares with x
complement : (x : ℕ) → x < 2 ^ 32 → not32 x ≡ bit_xor x (2 ^ 32 - 1)
unfolding not32
complement x h = omega (arith, xor_add_and x (2 ^ 32 - 1), and_mask x 32)

distribute : (x w z : ℕ) → x < 2 ^ 32 → w < 2 ^ 32 → z < 2 ^ 32 → bit_and (bit_xor x w) z ≡ bit_xor (bit_and x z) (bit_and w z)
unfolding eval Agree
distribute x w z hx hw hz =
    by_table (And (Xor X Y) Z) (Xor (And X Z) (And Y Z)) (refl, refl, refl, refl, refl, refl, refl, refl) 32 x w z hx hw hz

without : (x z : ℕ) → x < 2 ^ 32 → z < 2 ^ 32 → bit_and (not32 x) z ≡ bit_xor (bit_and x z) z
without x z hx hz =
    ap (λ (n : ℕ). bit_and n z) (complement x hx) ∙ distribute x (2 ^ 32 - 1) z hx (omega arith) hz
    ∙ ap (bit_xor (bit_and x z)) (and_comm (2 ^ 32 - 1) z ∙ and_mask z 32 ∙ omega arith)

not_small : (x : ℕ) → not32 x < 2 ^ 32
unfolding not32
not_small x = omega arith

module _ (x y z : ℕ) (hx : x < 2 ^ 32) (hy : y < 2 ^ 32) (hz : z < 2 ^ 32) where
  -- Ch: z, with the bits of y where x has ones
  pub ch_choice : bit_xor z (bit_and x (bit_xor y z)) ≡ ch x y z
  unfolding ch eval Agree
  ch_choice =
      by_table (Xor Z (And X (Xor Y Z))) (Xor (And X Y) (Xor (And X Z) Z)) (refl, refl, refl, refl, refl, refl, refl, refl) 32 x y z hx hy hz
      ∙ ap (bit_xor (bit_and x y)) (sym (without x z hx hz))
      ∙ sym (ap₂ xor32 (and_is x y hx hy) (and_is (not32 x) z (not_small x) hz)
      ∙ xor_is (bit_and x y) (bit_and (not32 x) z) (and_lt 32 x y hx hy) (and_lt 32 (not32 x) z (not_small x) hz))

  -- Maj: the bits that x and y share, and where they differ those of z
  pub maj_choice : bit_xor (bit_and x y) (bit_and z (bit_xor x y)) ≡ maj x y z
  unfolding maj eval Agree
  maj_choice =
      let xy : bit_and x y < 2 ^ 32 = and_lt 32 x y hx hy in
      let xz : bit_and x z < 2 ^ 32 = and_lt 32 x z hx hz in
      let yz : bit_and y z < 2 ^ 32 = and_lt 32 y z hy hz in
      by_table (Xor (And X Y) (And Z (Xor X Y))) (Xor (Xor (And X Y) (And X Z)) (And Y Z)) (refl, refl, refl, refl, refl, refl, refl, refl) 32 x y z hx hy hz
      ∙ sym (ap₂ xor32 (ap₂ xor32 (and_is x y hx hy) (and_is x z hx hz) ∙ xor_is _ _ xy xz) (and_is y z hy hz)
      ∙ xor_is _ _ (xor_lt 32 (bit_and x y) (bit_and x z) xy xz) yz)

  pub parity_is : bit_xor (bit_xor x y) z ≡ parity x y z
  unfolding parity
  parity_is = sym (ap (λ (n : ℕ). xor32 n z) (xor_is x y hx hy) ∙ xor_is (bit_xor x y) z (xor_lt 32 x y hx hy) hz)

  -- four words, as the schedule mixes them
  pub xor_four : (v : ℕ) → v < 2 ^ 32 → bit_xor (bit_xor (bit_xor x y) z) v ≡ xor32 (xor32 (xor32 x y) z) v
  unfolding parity
  xor_four v hv =
      sym (ap (λ (n : ℕ). xor32 n v) (sym parity_is) ∙ xor_is (bit_xor (bit_xor x y) z) v (xor_lt 32 (bit_xor x y) z (xor_lt 32 x y hx hy) hz) hv)

-- ROTL by shifts
shifted : (x p : ℕ) → x < 2 ^ 32 → x / p < 2 ^ 32
shifted x p h = lt_of_le_of_lt (div-le_self x p) h

pub rotl_is : (n x : ℕ) → x < 2 ^ 32 → bit_or ((x * 2 ^ n) % 2 ^ 32) (x / 2 ^ (32 - n)) ≡ rotl n x
unfolding rotl
rotl_is n x h = sym (or_is ((x * 2 ^ n) % 2 ^ 32) (x / 2 ^ (32 - n)) (omega arith) (shifted x (2 ^ (32 - n)) h))

-- a word's bytes by shifts
pub by_shifts : (x : ℕ) → bytes32 x ≡ x / 2 ^ 24 % 256 ∷ x / 2 ^ 16 % 256 ∷ x / 2 ^ 8 % 256 ∷ x % 256 ∷ []
unfolding bytes_of
by_shifts x =
    let e₂ : x / 256 / 256 ≡ x / 2 ^ 16 = omega arith in
    let e₃ : x / 256 / 256 / 256 ≡ x / 2 ^ 24 = omega arith in
    rw (e₃, e₂)
