-- Laws of hex digits: each in lower case is read as what it was written for, so bytes as text are read back as the same bytes.
use Rattle.std.specs.Prelude.{◌&&◌, ◌≡◌, refl, ◌⊎◌, Bool, true, false, not, List, [], ◌∷◌, ◌++◌, ℕ, zero, suc, ◌+◌, ◌*◌, ◌-◌, ◌/◌, ◌%◌, ◌≤◌, ◌<◌, eqb, leb, ltb, get_or, take}
use Rattle.std.proofs.Common.{◌∙◌, sym, ap, ap₂, inl, inr, ⊎_elim, arith, length-append, append_assoc, append-nil, get_or-append-add, take-suc, ltb-true, ltb-false, lt-ltb, le-ltb, le-leb, leb-true, eqb-true, eq-eqb, ne_eqb}
use Rattle.std.proofs.Math.ListN.{length, get_or-append}
use Rattle.std.proofs.Math.Seq.{take-length}
use Rattle.std.proofs.lemmas.Bool.{lt-leb, eqb-false}
use Rattle.choice.specs.Choice.{both}
use Rattle.choice.specs.ChoiceLaws.{both_true, both_none, either_right, pick_cases}
use Rattle.wire.specs.Bytes.{AreBytes, patch}
use Rattle.wire.proofs.PatchLaws.{patch_join}
use Rattle.text.specs.Hex.{within, value, digit, two_digits, digits_of, hex_text, all_digits, bytes_in, is_dash, are_pairs, is_hex}
use Rattle.text.specs.Hex.{hex_bytes}

-- i is one of the first n + 1: one of the first n, or the last
pub last_or_before : (i n : ℕ) → i < suc n → (i < n) ⊎ (i ≡ n)
last_or_before i n h = by_place (ltb i n) refl
  where
    by_place : (b : Bool) → ltb i n ≡ b → (i < n) ⊎ (i ≡ n)
    by_place true e = inl (ltb-true i n e)
    by_place false e = inr (omega (arith, ltb-false i n e))

-- every digit of such a run says a value below base
pub digit_below : (base n : ℕ) (s : List ℕ) (i : ℕ) → all_digits base n s ≡ true → i < n → value (get_or s i 0) < base
unfolding all_digits
digit_below base zero s i e h = omega arith
digit_below base (suc n) s i e h =
    let p = both_true (all_digits base n s) (ltb (value (get_or s n 0)) base) e in
    ⊎_elim (λ g. digit_below base n s i p.0 g) (λ g. rw g (ltb-true (value (get_or s n 0)) base p.1)) (last_or_before i n h)

-- and a run whose digits all do is one
pub all_below : (base n : ℕ) (s : List ℕ) → ((i : ℕ) → i < n → value (get_or s i 0) < base) → all_digits base n s ≡ true
unfolding all_digits
all_below base zero s h = refl
all_below base (suc n) s h =
    rw (all_below base n s (λ i g. h i (omega arith)), lt-ltb (value (get_or s n 0)) base (h n (omega arith)))

-- ---- one digit, one byte more

pub one_more : (i : ℕ) → i + 1 ≡ suc i
one_more i = omega arith

pub all_none : (base : ℕ) (s : List ℕ) → all_digits base 0 s ≡ true
unfolding all_digits
all_none base s = refl

pub all_next : (base i : ℕ) (s : List ℕ) → all_digits base (i + 1) s ≡ both (all_digits base i s) (ltb (value (get_or s i 0)) base)
unfolding all_digits
all_next base i s = rw (one_more i)

-- one more is looked at
pub all_more : (a : Bool) (base i v : ℕ) (s : List ℕ) → a ≡ all_digits base i s → v ≡ value (get_or s i 0)
    → (a && ltb v base) ≡ all_digits base (i + 1) s
all_more a base i v s e f = rw (e, f) (sym (all_next base i s))

pub digits_none : (l : List ℕ) → digits_of 0 l ≡ []
unfolding digits_of
digits_none l = refl

pub digits_next : (i : ℕ) (l : List ℕ) → digits_of (i + 1) l ≡ digits_of i l ++ two_digits 0x61 (get_or l i 0)
unfolding digits_of
digits_next i l = rw (one_more i)

pub bytes_none : (s : List ℕ) → bytes_in 0 s ≡ []
unfolding bytes_in
bytes_none s = refl

pub bytes_next : (i : ℕ) (s : List ℕ)
    → bytes_in (i + 1) s ≡ bytes_in i s ++ ((value (get_or s (2 * i) 0) * 16 + value (get_or s (2 * i + 1) 0)) ∷ [])
unfolding bytes_in
bytes_next i s = rw (one_more i)

-- two digits a byte, one byte for two digits
two_long : (ten b : ℕ) → length (two_digits ten b) ≡ 2
unfolding two_digits
two_long ten b = refl

pub digits_length : (n : ℕ) (l : List ℕ) → length (digits_of n l) ≡ 2 * n
unfolding digits_of two_digits
digits_length zero l = refl
digits_length (suc n) l = length-append (digits_of n l) _ ∙ omega (arith, digits_length n l)

pub bytes_length : (n : ℕ) (s : List ℕ) → length (bytes_in n s) ≡ n
unfolding bytes_in
bytes_length zero s = refl
bytes_length (suc n) s = length-append (bytes_in n s) _ ∙ omega (arith, bytes_length n s)

-- ---- what a byte says, by the range that it is in

pub value_numeral : (c : ℕ) → 0x30 ≤ c → c ≤ 0x39 → value c ≡ c - 0x30
unfolding value
value_numeral c h k = rw (le-leb 0x30 c h, le-leb c 0x39 k)

pub value_capital : (c : ℕ) → 0x41 ≤ c → c ≤ 0x46 → value c ≡ c - 0x41 + 10
unfolding value
value_capital c h k = rw (le-leb 0x30 c (omega arith), lt-leb c 0x39 (omega arith), le-leb 0x41 c h, le-leb c 0x46 k)

pub value_letter : (c : ℕ) → 0x61 ≤ c → c ≤ 0x66 → value c ≡ c - 0x61 + 10
unfolding value
value_letter c h k =
    rw (
      le-leb 0x30 c (omega arith),
      lt-leb c 0x39 (omega arith),
      le-leb 0x41 c (omega arith),
      lt-leb c 0x46 (omega arith),
      le-leb 0x61 c h,
      le-leb c 0x66 k,
    )

-- a byte outside the three ranges says nothing
outside : (least most c : ℕ) → (c < least) ⊎ (most < c) → within least most c ≡ false
outside least most c (inl h) = rw (lt-leb least c h)
outside least most c (inr h) = rw (lt-leb c most h) (both_none (leb least c))

pub value_none : (c : ℕ) → (c < 0x30) ⊎ (0x39 < c) → (c < 0x41) ⊎ (0x46 < c) → (c < 0x61) ⊎ (0x66 < c) → value c ≡ 16
unfolding value
value_none c p q r = rw (outside 0x30 0x39 c p, outside 0x41 0x46 c q, outside 0x61 0x66 c r)

pub value_most : (c : ℕ) → value c ≤ 16
unfolding value
value_most c =
    pick_cases (λ (x : ℕ). x ≤ 16) (within 0x30 0x39 c) (c - 0x30) _ (λ e. numeral (both_true (leb 0x30 c) (leb c 0x39) e).1)
    (λ e. pick_cases (λ (x : ℕ). x ≤ 16) (within 0x41 0x46 c) (c - 0x41 + 10) _ (λ f. capital (both_true (leb 0x41 c) (leb c 0x46) f).1)
    (λ f. pick_cases (λ (x : ℕ). x ≤ 16) (within 0x61 0x66 c) (c - 0x61 + 10) 16 (λ g. letter (both_true (leb 0x61 c) (leb c 0x66) g
    ).1) (λ g. omega arith)))
  where
    numeral : leb c 0x39 ≡ true → c - 0x30 ≤ 16
    numeral e = omega (arith, leb-true c 0x39 e)

    capital : leb c 0x46 ≡ true → c - 0x41 + 10 ≤ 16
    capital e = omega (arith, leb-true c 0x46 e)

    letter : leb c 0x66 ≡ true → c - 0x61 + 10 ≤ 16
    letter e = omega (arith, leb-true c 0x66 e)

-- ---- the digit of a number below 16

pub digit_numeral : (ten x : ℕ) → x < 10 → digit ten x ≡ 0x30 + x
unfolding digit
digit_numeral ten x h = rw (lt-ltb x 10 h)

pub digit_letter : (ten x : ℕ) → 10 ≤ x → digit ten x ≡ ten + (x - 10)
unfolding digit
digit_letter ten x h = rw (le-ltb x 10 h)

-- one in lower case says what it was written for
pub value_digit : (x : ℕ) → x < 16 → value (digit 0x61 x) ≡ x
value_digit x h = by_size (ltb x 10) refl
  where
    by_size : (b : Bool) → ltb x 10 ≡ b → value (digit 0x61 x) ≡ x
    by_size true e =
        let g = ltb-true x 10 e in
        ap value (digit_numeral 0x61 x g) ∙ value_numeral (0x30 + x) (omega arith) (omega arith) ∙ omega arith
    by_size false e =
        let g = ltb-false x 10 e in
        ap value (digit_letter 0x61 x g) ∙ value_letter (0x61 + (x - 10)) (omega arith) (omega arith) ∙ omega arith

-- the two digits of the byte at i
abbrev PairAt : ℕ → List ℕ → ℕ → Type 0
PairAt n l i =
    (get_or (digits_of n l) (2 * i) 0 ≡ digit 0x61 (get_or l i 0 / 16)) × (get_or (digits_of n l) (2 * i + 1) 0 ≡ digit 0x61 (get_or l i 0 % 16))

pair_at : (n : ℕ) (l : List ℕ) (i : ℕ) → i < n → PairAt n l i
unfolding digits_of two_digits
pair_at zero l i h = omega arith
pair_at (suc n) l i h =
    let front : List ℕ = digits_of n l in
    let long = digits_length n l in
    let two : List ℕ = digit 0x61 (get_or l n 0 / 16) ∷ digit 0x61 (get_or l n 0 % 16) ∷ [] in
    ⊎_elim
    (λ g. (
      get_or-append front two 0 (2 * i) (omega (arith, long)) ∙ (pair_at n l i g).0,
      get_or-append front two 0 (2 * i + 1) (omega (arith, long)) ∙ (pair_at n l i g).1,
    ))
    (λ g. rw g (
      ap (λ (k : ℕ). get_or (front ++ two) k 0) (omega (arith, long)) ∙ get_or-append-add front two 0 0,
      ap (λ (k : ℕ). get_or (front ++ two) k 0) (omega (arith, long)) ∙ get_or-append-add front two 1 0,
    ))
    (last_or_before i n h)

-- what the digit at j of n bytes says is below 16, and the pair at i says the byte
module _ (n : ℕ) (l : List ℕ) (small : AreBytes l) where
  high_said : (i : ℕ) → i < n → value (get_or (digits_of n l) (2 * i) 0) ≡ get_or l i 0 / 16
  high_said i h = let b = small i in ap value (pair_at n l i h).0 ∙ value_digit (get_or l i 0 / 16) (omega arith)

  low_said : (i : ℕ) → i < n → value (get_or (digits_of n l) (2 * i + 1) 0) ≡ get_or l i 0 % 16
  low_said i h = let b = small i in ap value (pair_at n l i h).1 ∙ value_digit (get_or l i 0 % 16) (omega arith)

  said_below : (j : ℕ) → j < length (digits_of n l) → value (get_or (digits_of n l) j 0) < 16
  said_below j h = by_half (eqb (j % 2) 0) refl
    where
      by_half : (b : Bool) → eqb (j % 2) 0 ≡ b → value (get_or (digits_of n l) j 0) < 16
      by_half true e =
          let z = eqb-true (j % 2) 0 e in
          let long = digits_length n l in
          let k : 2 * (j / 2) ≡ j = omega arith in
          let g = rw k at (high_said (j / 2) (omega (arith, long))) in
          let b = small (j / 2) in
          omega arith
      by_half false e =
          let z = eqb-false (j % 2) 0 e in
          let long = digits_length n l in
          let k : 2 * (j / 2) + 1 ≡ j = omega arith in
          let g = rw k at (low_said (j / 2) (omega (arith, long))) in
          let b = small (j / 2) in
          omega arith

  -- the digits of bytes are digits
  pub digits_all : all_digits 16 (length (digits_of n l)) (digits_of n l) ≡ true
  digits_all = all_below 16 (length (digits_of n l)) (digits_of n l) said_below

-- and say them
back : (n m : ℕ) (l : List ℕ) → AreBytes l → n ≤ m → n ≤ length l → bytes_in n (digits_of m l) ≡ take n l
unfolding bytes_in
back zero m l small h k = refl
back (suc n) m l small h k =
    let b = small n in
    let byte : value (get_or (digits_of m l) (2 * n) 0) * 16 + value (get_or (digits_of m l) (2 * n + 1) 0) ≡ get_or l n 0 =
    ap₂ (λ (x y : ℕ). x * 16 + y) (high_said m l small n (omega arith)) (low_said m l small n (omega arith)) ∙ omega arith in
    ap₂ (λ (x : List ℕ) (y : ℕ). x ++ (y ∷ [])) (back n m l small (omega arith) (omega arith)) byte ∙ sym (take-suc l n 0 (omega arith))

-- ---- put one behind another

-- the digits of a byte in lower case are ASCII
digit_ascii : (x : ℕ) → x < 16 → digit 0x61 x < 128
unfolding digit
digit_ascii x h =
    pick_cases (λ (y : ℕ). y < 128) (ltb x 10) (0x30 + x) (0x61 + (x - 10)) (λ e. let g = ltb-true x 10 e in omega arith) (λ e. omega arith)

pub high_ascii : (b : ℕ) → b < 256 → get_or (two_digits 0x61 b) 0 0 < 128
unfolding two_digits
high_ascii b h = digit_ascii (b / 16) (omega arith)

pub low_ascii : (b : ℕ) → get_or (two_digits 0x61 b) 1 0 < 128
unfolding two_digits
low_ascii b = digit_ascii (b % 16) (omega arith)

pub two_behind : (l : List ℕ) (b : ℕ)
    → (l ++ get_or (two_digits 0x61 b) 0 0 ∷ []) ++ get_or (two_digits 0x61 b) 1 0 ∷ [] ≡ l ++ two_digits 0x61 b
unfolding two_digits
two_behind l b = append_assoc l _ _

pub digits_start : (out l : List ℕ) → out ≡ out ++ digits_of 0 l
digits_start out l = sym (append-nil out) ∙ ap (λ (d : List ℕ). out ++ d) (sym (digits_none l))

pub digits_more : (out : List ℕ) (i : ℕ) (l : List ℕ)
    → (out ++ digits_of i l) ++ two_digits 0x61 (get_or l i 0) ≡ out ++ digits_of (i + 1) l
digits_more out i l = append_assoc out (digits_of i l) _ ∙ ap (λ (d : List ℕ). out ++ d) (sym (digits_next i l))

pub digits_placed : (out : List ℕ) (i : ℕ) (l : List ℕ) → 2 * i + 2 ≤ length out
    → patch (patch out 0 (digits_of i l)) (2 * i) (two_digits 0x61 (get_or l i 0)) ≡ patch out 0 (digits_of (i + 1) l)
digits_placed out i l h =
    let long = digits_length i l in
    patch_join out 0 (digits_of i l) (omega (arith, long)) (2 * i) (two_digits 0x61 (get_or l i 0)) (omega (arith, long))
    ∙ ap (patch out 0) (sym (digits_next i l))

pub bytes_start : (out s : List ℕ) → out ≡ out ++ bytes_in 0 s
bytes_start out s = sym (append-nil out) ∙ ap (λ (d : List ℕ). out ++ d) (sym (bytes_none s))

pub bytes_more : (out : List ℕ) (i : ℕ) (s : List ℕ)
    → (out ++ bytes_in i s) ++ (value (get_or s (2 * i) 0) * 16 + value (get_or s (2 * i + 1) 0)) ∷ [] ≡ out ++ bytes_in (i + 1) s
bytes_more out i s = append_assoc out (bytes_in i s) _ ∙ ap (λ (d : List ℕ). out ++ d) (sym (bytes_next i s))

-- what is not one byte long is no dash
pub no_dash : (s : List ℕ) → (length s ≡ 1 → ⊥) → is_dash s ≡ false
unfolding is_dash
no_dash s n = rw (ne_eqb (length s) 1 n)

-- pairs of digits, one or more
pub pairs_right : (s : List ℕ) → 0 < length s → length s % 2 ≡ 0 → all_digits 16 (length s) s ≡ true → are_pairs s ≡ true
unfolding are_pairs
pairs_right s p e a = rw (ne_eqb (length s) 0 (λ z. omega arith), eq-eqb (length s % 2) 0 e, a)

-- ---- bytes as text are hex, and are read back as the same bytes

pub text_none : (l : List ℕ) → length l ≡ 0 → hex_text l ≡ 0x2d ∷ []
unfolding hex_text
text_none l e = rw (eq-eqb (length l) 0 e)

pub text_some : (l : List ℕ) → 0 < length l → hex_text l ≡ digits_of (length l) l
unfolding hex_text
text_some l h = rw (ne_eqb (length l) 0 (λ z. omega arith))

pub text_long : (l : List ℕ) → 0 < length l → length (hex_text l) ≡ 2 * length l
text_long l h = ap length (text_some l h) ∙ digits_length (length l) l

module _ (l : List ℕ) (small : AreBytes l) (h : 0 < length l) where
  long : length (digits_of (length l) l) ≡ 2 * length l
  long = digits_length (length l) l

  some_read : is_hex (digits_of (length l) l) ≡ true
  unfolding is_hex
  some_read =
      either_right (is_dash (digits_of (length l) l)) (are_pairs (digits_of (length l) l))
      (pairs_right (digits_of (length l) l) (omega (arith, long)) (omega (arith, long)) (digits_all (length l) l small))

  some_back : hex_bytes (digits_of (length l) l) ≡ l
  unfolding hex_bytes
  some_back =
      let half : length (digits_of (length l) l) / 2 ≡ length l = omega (arith, long) in
      rw (no_dash (digits_of (length l) l) (λ z. omega (arith, long)), half)
      (back (length l) (length l) l small (omega arith) (omega arith) ∙ take-length l)

dash_read : is_hex (0x2d ∷ []) ≡ true
unfolding is_hex is_dash
dash_read = refl

dash_back : hex_bytes (0x2d ∷ []) ≡ []
unfolding hex_bytes is_dash
dash_back = refl

pub hex_back : (l : List ℕ) → AreBytes l → (is_hex (hex_text l) ≡ true) × (hex_bytes (hex_text l) ≡ l)
hex_back [] small = (rw (text_none [] refl) dash_read, rw (text_none [] refl) dash_back)
hex_back (b ∷ l) small =
    let h : 0 < length (b ∷ l) = omega arith in (
      rw (text_some (b ∷ l) h) (some_read (b ∷ l) small h),
      ap hex_bytes (text_some (b ∷ l) h) ∙ some_back (b ∷ l) small h,
    )

-- ---- how hex is read: a dash, pairs of digits, or no hex

pub pairs_digits : (s : List ℕ) → are_pairs s ≡ true → all_digits 16 (length s) s ≡ true
unfolding are_pairs
pairs_digits s e =
    let inner = (both_true (not (eqb (length s) 0)) (both (eqb (length s % 2) 0) (all_digits 16 (length s) s)) e).1 in
    (both_true (eqb (length s % 2) 0) (all_digits 16 (length s) s) inner).1

module _ (s : List ℕ) where
  pub dash_hex : is_dash s ≡ true → (is_hex s ≡ true) × (hex_bytes s ≡ [])
  unfolding is_hex hex_bytes
  dash_hex e = rw e (refl, refl)

  pub pairs_hex : is_dash s ≡ false → are_pairs s ≡ true → (is_hex s ≡ true) × (hex_bytes s ≡ bytes_in (length s / 2) s)
  unfolding is_hex hex_bytes
  pairs_hex e f = rw (e, f) (refl, refl)

  pub no_hex : is_dash s ≡ false → are_pairs s ≡ false → is_hex s ≡ false
  unfolding is_hex
  no_hex e f = rw (e, f) refl

-- ---- all digits, by index

-- whether all say a value below base: the one answer of a search for one that does not
pub all_said : (r : Bool) (base : ℕ) (s : List ℕ)
    → (r ≡ true → (i : ℕ) → i < length s → value (get_or s i 0) < base)
    → (((i : ℕ) → i < length s → value (get_or s i 0) < base) → r ≡ true)
    → r ≡ all_digits base (length s) s
all_said true base s f g = sym (all_below base (length s) s (f refl))
all_said false base s f g = by_all (all_digits base (length s) s) refl
  where
    by_all : (b : Bool) → all_digits base (length s) s ≡ b → false ≡ all_digits base (length s) s
    by_all false e = sym e
    by_all true e = g (λ i h. digit_below base (length s) s i e h) ∙ sym e
