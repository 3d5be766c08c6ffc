-- Laws of big-endian numbers, over the width: what reads the same bytes reads the same number, a patch apart changes none, the bytes of
-- a number give it back, and a number's bytes are those that it was read from.
use Rattle.std.specs.Prelude.{◌≡◌, refl, ◌⊎◌, List, [], ◌∷◌, ◌++◌, ℕ, zero, suc, ◌+◌, ◌*◌, ◌/◌, ◌%◌, ◌^◌, ◌≤◌, ◌<◌, length, get_or, take, drop}
use Rattle.std.proofs.Common.{◌∙◌, sym, ap, ap₂, inl, inr, ⊎_elim, arith, add-zero, zero-add, add-suc, add_assoc, mul_assoc, pow-suc, length-append, length-drop, get_or-take, get_or-drop, take-suc, take_all, drop_of_length-le}
use Rattle.std.proofs.Math.Nat.{pow-le-pow_right}
use Rattle.std.specs.Int.{w32, from_be_bytes, to_be_bytes}
use Rattle.std.proofs.Math.ListN.{get_or-append}
use Rattle.std.proofs.lemmas.List.{get_or_at, drop-append-le}
use Rattle.wire.specs.Bytes.{AreBytes, part, number, bytes_of, patch}
use Rattle.wire.proofs.PatchLaws.{at_outside, at_inside}

-- the same bytes, the same number
pub number_ext : (n a b : ℕ) (l m : List ℕ) → ((i : ℕ) → i < n → get_or l (a + i) 0 ≡ get_or m (b + i) 0) → number n a l ≡ number n b m
unfolding number
number_ext zero a b l m e = refl
number_ext (suc n) a b l m e = ap₂ (λ (x y : ℕ). x * 256 + y) (number_ext n a b l m (λ i h. e i (omega arith))) (e n (omega arith))

module _ (xs : List ℕ) (a : ℕ) (ys : List ℕ) (fits : a + length ys ≤ length xs) where
  pub number_outside : (n b : ℕ) → (b + n ≤ a) ⊎ (a + length ys ≤ b) → number n b (patch xs a ys) ≡ number n b xs
  number_outside n b apart =
      number_ext n b b (patch xs a ys) xs
      (λ i h. at_outside xs a ys fits (b + i) (⊎_elim (λ g. inl (omega arith)) (λ g. inr (omega arith)) apart))

  pub number_inside : (n b : ℕ) → b + n ≤ length ys → number n (a + b) (patch xs a ys) ≡ number n b ys
  number_inside n b h =
      number_ext n (a + b) b (patch xs a ys) ys (λ i g. rw (add_assoc a b i) (at_inside xs a ys fits (b + i) (omega arith)))

pub bytes_length : (n x : ℕ) → length (bytes_of n x) ≡ n
unfolding bytes_of
bytes_length zero x = refl
bytes_length (suc n) x = length-append (bytes_of n (x / 256)) _ ∙ omega (arith, bytes_length n (x / 256))

-- the last bytes of a number are its bytes in a smaller width
pub bytes_last : (m n x : ℕ) → drop m (bytes_of (m + n) x) ≡ bytes_of n x
unfolding bytes_of
bytes_last m zero x = rw (add-zero m) (drop_of_length-le (bytes_of m x) (omega (arith, bytes_length m x)))
bytes_last m (suc n) x =
    rw (add-suc m n) (drop-append-le m (bytes_of (m + n) (x / 256)) (x % 256 ∷ []) (omega (arith, bytes_length (m + n) (x / 256)))
    ∙ ap (λ (l : List ℕ). l ++ (x % 256 ∷ [])) (bytes_last m n (x / 256)))

pub bytes_part : (m n x : ℕ) → part m n (bytes_of (m + n) x) ≡ bytes_of n x
bytes_part m n x = ap (take n) (bytes_last m n x) ∙ take_all n (bytes_of n x) (omega (arith, bytes_length n x))

-- the library's four bytes of a word
pub bytes_high : (x : ℕ) → to_be_bytes w32 x ≡ bytes_of 4 x
unfolding bytes_of
bytes_high x =
    let e₂ : x / 256 / 256 ≡ x / 65536 = omega arith in
    let e₃ : x / 256 / 256 / 256 ≡ x / 16777216 = omega arith in
    rw (e₃, e₂)

-- the word that the library reads of four bytes
pub number_high : (a : ℕ) (l : List ℕ) → from_be_bytes w32 (part a 4 l) ≡ number 4 a l
unfolding number
number_high a l = omega (arith, byte 0 (omega arith), byte 1 (omega arith), byte 2 (omega arith), byte 3 (omega arith))
  where
    byte : (k : ℕ) → k < 4 → get_or (part a 4 l) k 0 ≡ get_or l (a + k) 0
    byte k h = get_or-take 4 (drop a l) k 0 h ∙ get_or-drop a l k 0

-- a number that fits comes back
pub number_bytes : (n x : ℕ) → x < 256 ^ n → number n 0 (bytes_of n x) ≡ x
unfolding number bytes_of
number_bytes zero x h = omega arith
number_bytes (suc n) x h =
    let p : List ℕ = bytes_of n (x / 256) in
    let l : List ℕ = p ++ (x % 256 ∷ []) in
    let front : number n 0 l ≡ number n 0 p =
    number_ext n 0 0 l p (λ i g. get_or-append p _ 0 (0 + i) (omega (arith, bytes_length n (x / 256)))) in
    let last : get_or l (0 + n) 0 ≡ x % 256 = get_or_at p (x % 256) [] 0 (0 + n) (bytes_length n (x / 256) ∙ sym (zero-add n)) in
    ap₂ (λ (y z : ℕ). y * 256 + z) (front ∙ number_bytes n (x / 256) (omega arith)) last ∙ omega arith

-- a number fits as many bytes as it was read from, and they are its bytes
pub number_below : (n a : ℕ) (l : List ℕ) → AreBytes l → number n a l < 256 ^ n
unfolding number
number_below zero a l small = omega arith
number_below (suc n) a l small = omega (arith, number_below n a l small, small (a + n), pow-suc 256 n)

pub bytes_number : (n a : ℕ) (l : List ℕ) → AreBytes l → a + n ≤ length l → bytes_of n (number n a l) ≡ part a n l
unfolding number bytes_of
bytes_number zero a l small h = refl
bytes_number (suc n) a l small h =
    let x : ℕ = number n a l in
    let y : ℕ = get_or l (a + n) 0 in
    let b : y < 256 = small (a + n) in
    let q : (x * 256 + y) / 256 ≡ x = omega arith in
    let r : (x * 256 + y) % 256 ≡ y = omega arith in
    let s : n < length (drop a l) = rw length-drop (omega arith) in
    ap₂ (λ (p : List ℕ) (z : ℕ). p ++ (z ∷ [])) (ap (bytes_of n) q ∙ bytes_number n a l small (omega arith)) (r ∙ sym (get_or-drop a l n 0))
    ∙ sym (take-suc (drop a l) n 0 s)

-- a number of less than eight bytes and one byte more fit 64 bits
pub number_room : (x i : ℕ) → x < 256 ^ i → i < 8 → x * 256 + 255 < 2 ^ 64
number_room x i h k =
    let b : i ≤ 7 = omega arith in
    let p : 256 ^ i ≤ 256 ^ 7 = pow-le-pow_right {n = 256} (omega arith) b in
    omega arith

-- the number in a part that holds a number's bytes
pub number_part : (n a x : ℕ) (l : List ℕ) → x < 256 ^ n → part a n l ≡ bytes_of n x → number n a l ≡ x
number_part n a x l h e =
    number_ext n a 0 l (bytes_of n x)
    (λ i g. sym (get_or-take n (drop a l) i 0 g ∙ get_or-drop a l i 0) ∙ ap (λ (p : List ℕ). get_or p i 0) e
    ∙ ap (λ (k : ℕ). get_or (bytes_of n x) k 0) (sym (zero-add i)))
    ∙ number_bytes n x h

-- a number is that of its first bytes and that of its last
pub number_add : (n m a : ℕ) (l : List ℕ) → number (n + m) a l ≡ number n a l * 256 ^ m + number m (a + n) l
unfolding number
number_add n zero a l = rw add-zero (omega arith)
number_add n (suc m) a l =
    let e : a + (n + m) ≡ a + n + m = omega arith in
    let p : number n a l * 256 ^ suc m ≡ number n a l * 256 ^ m * 256 =
    ap (λ (x : ℕ). number n a l * x) (pow-suc 256 m) ∙ sym (mul_assoc (number n a l) (256 ^ m) 256) in
    rw (add-suc n m, e, number_add n m a l) (omega arith)

pub number_two : (a : ℕ) (l : List ℕ) → number 2 a l ≡ get_or l a 0 * 256 + get_or l (a + 1) 0
unfolding number
number_two a l = rw (add-zero a) (omega arith)

-- bytes that are zero make zero
pub number_none : (n a : ℕ) (l : List ℕ) → ((i : ℕ) → i < n → get_or l (a + i) 0 ≡ 0) → number n a l ≡ 0
unfolding number
number_none zero a l e = refl
number_none (suc n) a l e = rw (number_none n a l (λ i h. e i (omega arith)), e n (omega arith))
