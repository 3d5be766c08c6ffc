-- Laws of decimal numbers: more digits say no less, and a number as text is read back as the same number.
use Rattle.std.specs.Prelude.{◌≡◌, refl, Bool, true, false, List, [], ◌∷◌, ◌++◌, ◌==◌, ℕ, zero, suc, ◌+◌, ◌*◌, ◌-◌, ◌/◌, ◌%◌, ◌^◌, ◌≤◌, ◌<◌, length, get_or}
use Rattle.std.proofs.Common.{◌∙◌, ap, ap₂, sym, arith, eqb-true, eq-eqb, append-nil, append_assoc, length-append, ⊎_elim, le_refl, pow-suc, lt-ltb}
use Rattle.std.proofs.Math.ListN.{get_or-append}
use Rattle.std.proofs.lemmas.List.{get_or_at}
use Rattle.std.proofs.lemmas.Bool.{eqb-false}
use Rattle.std.specs.Prelude.{decimal}
use Rattle.std.specs.Fmt.{digits_onto, digit_glyph, digits}
use Rattle.text.specs.Digits.{last_digits, hex_digit_ascii, IsDigitCount}
use Rattle.text.specs.Hex.{value, all_digits}
use Rattle.text.specs.Decimal.{decimal_of, SpelledOut}
use Rattle.text.proofs.HexLaws.{last_or_before, one_more, all_below, value_numeral}
use Rattle.text.proofs.PowerLaws.{digit_count_le}

-- each digit more says no less
pub decimal_grows : (i n : ℕ) (s : List ℕ) → i ≤ n → decimal_of i s ≤ decimal_of n s
unfolding decimal_of
decimal_grows i zero s h = let e : i ≡ 0 = omega arith in rw e (le_refl 0)
decimal_grows i (suc n) s h =
    ⊎_elim (λ g. omega (arith, decimal_grows i n s (omega arith))) (λ e. rw e (le_refl _)) (last_or_before i (suc n) (omega arith))

pub decimal_next : (i : ℕ) (s : List ℕ) → decimal_of (i + 1) s ≡ decimal_of i s * 10 + value (get_or s i 0)
unfolding decimal_of
decimal_next i s = rw (one_more i)

-- ---- a number's digits are digits, and say it

glyph_value : (d : ℕ) → d < 10 → value (hex_digit_ascii d) ≡ d
glyph_value d h = rw (lt-ltb d 10 h) (value_numeral (48 + d) (omega arith) (omega arith) ∙ omega arith)

pub spelled_length : (k x : ℕ) → length (last_digits 10 k x) ≡ k
spelled_length zero x = refl
spelled_length (suc k) x = length-append (last_digits 10 k (x / 10)) _ ∙ omega (arith, spelled_length k (x / 10))

-- a number of 64 bits takes at most twenty digits
pub spelled_short : (x : ℕ) (t : List ℕ) → x < 2 ^ 64 → SpelledOut x t → length t ≤ 20
spelled_short x t h said =
    rw (said.1.1, spelled_length said.0 x) (digit_count_le 10 1 x said.0 20 (omega arith) said.1.0 (omega arith) (omega arith))

-- the same digits, the same number
decimal_ext : (n : ℕ) (s t : List ℕ) → ((i : ℕ) → i < n → get_or s i 0 ≡ get_or t i 0) → decimal_of n s ≡ decimal_of n t
unfolding decimal_of
decimal_ext zero s t e = refl
decimal_ext (suc n) s t e = ap₂ (λ (x c : ℕ). x * 10 + value c) (decimal_ext n s t (λ i h. e i (omega arith))) (e n (omega arith))

last_glyph : (k x : ℕ) → get_or (last_digits 10 (suc k) x) k 0 ≡ hex_digit_ascii (x % 10)
last_glyph k x = get_or_at (last_digits 10 k (x / 10)) (hex_digit_ascii (x % 10)) [] 0 k (spelled_length k (x / 10))

front_glyph : (k x i : ℕ) → i < k → get_or (last_digits 10 (suc k) x) i 0 ≡ get_or (last_digits 10 k (x / 10)) i 0
front_glyph k x i h = get_or-append (last_digits 10 k (x / 10)) _ 0 i (omega (arith, spelled_length k (x / 10)))

-- the k digits of a number below 10 ^ k say it
pub spelled_said : (k x : ℕ) → x < 10 ^ k → decimal_of k (last_digits 10 k x) ≡ x
unfolding decimal_of
spelled_said zero x h = omega arith
spelled_said (suc k) x h =
    ap₂ (λ (y c : ℕ). y * 10 + c)
    (decimal_ext k (last_digits 10 (suc k) x) (last_digits 10 k (x / 10)) (front_glyph k x) ∙ spelled_said k (x / 10) (omega (arith, pow-suc 10 k)))
    (ap value (last_glyph k x) ∙ glyph_value (x % 10) (omega arith))
    ∙ omega arith

spelled_digit : (k x i : ℕ) → i < k → value (get_or (last_digits 10 k x) i 0) < 10
spelled_digit zero x i h = omega arith
spelled_digit (suc k) x i h =
    ⊎_elim (λ g. rw (front_glyph k x i g) (spelled_digit k (x / 10) i g))
    (λ e. rw (e, last_glyph k x, glyph_value (x % 10) (omega arith)) (omega arith)) (last_or_before i k h)

-- a number as text is read back as the same number
pub decimal_back : (x : ℕ) (t : List ℕ) → SpelledOut x t → (all_digits 10 (length t) t ≡ true) × (decimal_of (length t) t ≡ x)
decimal_back x t (k, (f, e)) =
    rw (e, spelled_length k x) (all_below 10 k (last_digits 10 k x) (spelled_digit k x), spelled_said k x f.1)

-- where the digits up to i and the one there say more than the bound, all of them do
pub exceeds : (s : List ℕ) (n i most : ℕ) → i < n → most < decimal_of i s * 10 + value (get_or s i 0) → most < decimal_of n s
exceeds s n i most h k = omega (arith, decimal_grows (i + 1) n s (omega arith), decimal_next i s)

pub decimal_none : (s : List ℕ) → decimal_of 0 s ≡ 0
unfolding decimal_of
decimal_none s = refl

-- ---- what std prints of a number is the number in decimal

-- one digit more
grows : (j x : ℕ) → 1 ≤ j → (1 < j → 10 ^ (j - 1) ≤ x / 10) → (x / 10 ≡ 0 → ⊥) → 10 ^ j ≤ x
grows zero x p g n = absurd (omega arith)
grows (suc zero) x p g n = omega (arith, n)
grows (suc (suc i)) x p g n =
    let k : suc (suc i) - 1 ≡ suc i = omega arith in
    let h : 10 ^ suc i ≤ x / 10 = rw k at (g (omega arith)) in
    omega (arith, pow-suc 10 (suc i))

glyph_is : (x : ℕ) → digit_glyph false (x % 10) ≡ hex_digit_ascii (x % 10)
glyph_is x = rw (lt-ltb (x % 10) 10 (omega arith)) refl

-- the digits that std puts in front of acc, of a number that they hold, are those that it takes
abbrev Spells : ℕ → ℕ → List ℕ → Type 0
Spells f x acc = (k : ℕ) × ((IsDigitCount 10 1 x k) × (digits_onto (suc f) 10 false x acc ≡ last_digits 10 k x ++ acc))

spells_one : (f x : ℕ) (acc : List ℕ) → (x / 10 == 0) ≡ true → Spells f x acc
spells_one f x acc e =
    let z = eqb-true (x / 10) 0 e in
    (1, ((omega arith, omega arith, λ h. absurd (omega arith)), rw e (ap (λ (g : ℕ). g ∷ acc) (glyph_is x))))

spells_more : (f x : ℕ) (acc : List ℕ) → (x / 10 == 0) ≡ false → Spells f (x / 10) (digit_glyph false (x % 10) ∷ acc) → Spells (suc f) x acc
spells_more f x acc e (j, ((p, small, g), is)) =
    let n = eqb-false (x / 10) 0 e in
    let front : List ℕ = last_digits 10 j (x / 10) in (
      suc j,
      (
        (omega arith, omega (arith, pow-suc 10 j), λ h. let k : suc j - 1 ≡ j = omega arith in rw k (grows j x p g n)),
        rw e (is ∙ ap (λ (d : ℕ). front ++ d ∷ acc) (glyph_is x) ∙ sym (append_assoc front (hex_digit_ascii (x % 10) ∷ []) acc)),
      ),
    )

spells : (f x : ℕ) (acc : List ℕ) → x < 10 ^ suc f → Spells f x acc
spells zero x acc h = spells_one zero x acc (eq-eqb (x / 10) 0 (omega arith))
spells (suc f) x acc h = by_rest (x / 10 == 0) refl (spells f (x / 10) (digit_glyph false (x % 10) ∷ acc) (omega (arith, pow-suc 10 (suc f))))
  where
    by_rest : (b : Bool) → (x / 10 == 0) ≡ b → Spells f (x / 10) (digit_glyph false (x % 10) ∷ acc) → Spells (suc f) x acc
    by_rest true e rest = spells_one (suc f) x acc e
    by_rest false e rest = spells_more f x acc e rest

-- what `{}` prints of a number of 64 bits
pub decimal_spelled : (x : ℕ) → x < 2 ^ 64 → SpelledOut x (decimal x)
unfolding digits
decimal_spelled x h = let (k, (count, is)) = spells 63 x [] (omega arith) in (k, (count, is ∙ append-nil (last_digits 10 k x)))
