-- Laws of the padding: it is the standard's, it makes whole blocks, and what is written of it byte by byte is it.
use Rattle.std.specs.Prelude.{ℕ, suc, ◌+◌, ◌-◌, ◌*◌, ◌/◌, ◌%◌, ◌^◌, ◌≤◌, ◌<◌, ◌≡◌, refl, List, ◌∷◌, ◌++◌, length, set, take, drop, replicate, get_or}
use Rattle.std.proofs.Common.{sym, ap, ap₂, ◌∙◌, append_assoc, arith, length-append, length-take-le, take_all, take_at, drop_at, add-one}
use Rattle.std.proofs.lemmas.List.{length-replicate, replicate-append-replicate, set_at}
use Rattle.std.proofs.Math.Seq.{take-append-add, length-sets, paste, paste-suc}
use Rattle.std.proofs.lemmas.List.Edits.{sets, sets-eq}
use Rattle.wire.proofs.NumberLaws.{bytes_length}
use Rattle.words.specs.Words.{bytes32}
use Rattle.md.specs.Padding.{zeros_for, length_block, padding, padded, block_count}

-- ---- the zero bits are those of the standard: the least k with l + 1 + k ≡ 448 mod 512

pub zeros_solve : (n : ℕ) → (n * 8 + 1 + (7 + zeros_for n * 8)) % 512 ≡ 448
unfolding zeros_for
zeros_solve n = omega arith

pub zeros_least : (n k : ℕ) → (n * 8 + 1 + k) % 512 ≡ 448 → 7 + zeros_for n * 8 ≤ k
unfolding zeros_for
zeros_least n k e = omega arith

-- ---- whole blocks, and how many

pub padded_length : (m : List ℕ) → length (padded m) ≡ length m + (zeros_for (length m) + 9)
unfolding padded padding length_block
padded_length m = simp (length-append, length-replicate, bytes_length) (omega arith)

pub padded_whole : (m : List ℕ) → length (padded m) % 64 ≡ 0
unfolding zeros_for
padded_whole m = rw padded_length (omega arith)

pub padded_blocks : (m : List ℕ) → length (padded m) / 64 ≡ block_count (length m)
unfolding zeros_for block_count
padded_blocks m = rw padded_length (omega arith)

-- ---- the padding goes by the length's low 64 bits, which are all that a running state counts

low_bits : (n : ℕ) → n % 2 ^ 64 % 64 ≡ n % 64
low_bits n = omega arith

high_mod : (n : ℕ) → n % 2 ^ 64 * 8 / 2 ^ 32 % 2 ^ 32 ≡ n * 8 / 2 ^ 32 % 2 ^ 32
high_mod n = omega arith

low_mod : (n : ℕ) → n % 2 ^ 64 * 8 % 2 ^ 32 ≡ n * 8 % 2 ^ 32
low_mod n = omega arith

pub padding_mod : (n : ℕ) → padding (n % 2 ^ 64) ≡ padding n
unfolding padding zeros_for length_block
padding_mod n = rw (low_bits n, high_mod n, low_mod n)

-- ---- copied bytes, the byte 80h behind them, and the two words of the length stored where they belong

take_replicate : (z n a : ℕ) → z ≤ n → take z (replicate n a) ≡ replicate z a
take_replicate z n a h =
    let e : z + (n - z) ≡ n = omega arith in
    ap (λ (x : ℕ). take z (replicate x a)) (sym e) ∙ ap (take z) (sym (replicate-append-replicate z (n - z) a))
    ∙ take_at (replicate z a) (replicate (n - z) a) z (length-replicate z a)

drop_replicate : (n i a : ℕ) → i ≤ n → drop i (replicate n a) ≡ replicate (n - i) a
drop_replicate n i a h =
    let e : i + (n - i) ≡ n = omega arith in
    ap (λ (x : ℕ). drop i (replicate x a)) (sym e) ∙ ap (drop i) (sym (replicate-append-replicate i (n - i) a))
    ∙ drop_at (replicate i a) (replicate (n - i) a) i (length-replicate i a)

-- bytes copied to the start of n zeros
pub before_zeros : (n : ℕ) (s : List ℕ) → length s ≤ n → paste (replicate n 0) 0 s (length s) ≡ s ++ replicate (n - length s) 0
before_zeros n s h =
    let e : 0 + length s ≡ length s = omega arith in
    ap₂ (λ (x y : List ℕ). x ++ y) (take_all (length s) s (omega arith))
    (ap (λ (x : ℕ). drop x (replicate n 0)) e ∙ drop_replicate n (length s) 0 h)

pub copied_more : (d s b : List ℕ) (j : ℕ) → j < length d → j < length s → b ≡ paste d 0 s j → set b j (get_or s j 0) ≡ paste d 0 s (j + 1)
copied_more d s b j hd hs eb =
    let e : 0 + j ≡ j = omega arith in
    ap₂ (λ (x : List ℕ) (i : ℕ). set x i (get_or s j 0)) eb (sym e) ∙ paste-suc d 0 s j 0 (omega arith) hs ∙ ap (paste d 0 s) (sym (add-one j))

-- the byte behind them
pub marked_law : (s b : List ℕ) (n j : ℕ) → length s < n → j ≡ length s → b ≡ paste (replicate n 0) 0 s j
    → set b j 0x80 ≡ s ++ (0x80 ∷ replicate (n - 1 - length s) 0)
marked_law s b n j h ej eb =
    let e : n - length s ≡ suc (n - 1 - length s) = omega arith in
    let copied : b ≡ s ++ replicate (n - length s) 0 = eb ∙ ap (λ (i : ℕ). paste (replicate n 0) 0 s i) ej ∙ before_zeros n s (omega arith) in
    ap₂ (λ (x : List ℕ) (y : ℕ). set x y 0x80) (copied ∙ ap (λ (k : ℕ). s ++ replicate k 0) e) ej
    ∙ set_at s 0 (replicate (n - 1 - length s) 0) 0x80 (length s) refl

high_word : (n : ℕ) → n / 536870912 % 2 ^ 32 ≡ n * 8 / 2 ^ 32 % 2 ^ 32
high_word n = omega arith

low_word : (n : ℕ) → n % 536870912 * 8 ≡ n * 8 % 2 ^ 32
low_word n = omega arith

high_half : (n : ℕ) → n * 8 % 2 ^ 64 / 2 ^ 32 ≡ n * 8 / 2 ^ 32 % 2 ^ 32
high_half n = omega arith

low_half : (n : ℕ) → n * 8 % 2 ^ 64 % 2 ^ 32 ≡ n * 8 % 2 ^ 32
low_half n = omega arith

-- a word stored at i, and what stands up to its end
stored_front : (l : List ℕ) (i x : ℕ) → i + 4 ≤ length l → take (i + 4) (sets l i (bytes32 x)) ≡ take i l ++ bytes32 x
stored_front l i x h =
    let four : length (bytes32 x) ≡ 4 = bytes_length 4 x in
    let le : length (take i l ++ bytes32 x) ≡ i + 4 =
    length-append (take i l) (bytes32 x) ∙ ap₂ (λ (y z : ℕ). y + z) (length-take-le i l (omega arith)) four in
    ap (take (i + 4)) (sets-eq (bytes32 x) l i (omega arith))
    ∙ take_at (take i l ++ bytes32 x) _ (i + 4) le

-- the bytes up to the length's: the tail t, the byte 80h and zeros
front : (t : List ℕ) (w z i : ℕ) → z ≤ w → i ≡ length t + z + 1 → take i (t ++ (0x80 ∷ replicate w 0)) ≡ t ++ (0x80 ∷ replicate z 0)
front t w z i h ei =
    let e : i ≡ length t + suc z = omega arith in
    ap (λ (x : ℕ). take x (t ++ (0x80 ∷ replicate w 0))) e
    ∙ take-append-add t (0x80 ∷ replicate w 0) (suc z)
    ∙ ap (λ (x : List ℕ). t ++ (0x80 ∷ x)) (take_replicate z w 0 h)

-- the tail of a message of n bytes and the padding fill two blocks at most
pub ending_fits : (n t : ℕ) → t ≡ n % 64 → t + (zeros_for n + 9) ≤ 128
unfolding zeros_for
ending_fits n t e = omega arith

pub ending_halves : (t b p q : List ℕ) (n at high low : ℕ) → length t ≡ n % 64 → length b ≡ 128
    → b ≡ t ++ (0x80 ∷ replicate (127 - length t) 0)
    → at ≡ length t + zeros_for n + 1 → p ≡ sets b at (bytes32 high) → q ≡ sets p (at + 4) (bytes32 low)
    → high ≡ n * 8 % 2 ^ 64 / 2 ^ 32 → low ≡ n * 8 % 2 ^ 64 % 2 ^ 32 → take (length t + (zeros_for n + 9)) q ≡ t ++ padding n
unfolding padding length_block
ending_halves t b p q n at high low ht lb eb ea ep eq eh el =
    let fits : length t + (zeros_for n + 9) ≤ 128 = ending_fits n (length t) ht in
    let lp : length p ≡ 128 = ap length ep ∙ length-sets b at (bytes32 high) ∙ lb in
    let e9 : length t + (zeros_for n + 9) ≡ at + 4 + 4 = omega arith in
    let head : take at b ≡ t ++ (0x80 ∷ replicate (zeros_for n) 0) = ap (take at) eb ∙ front t (127 - length t) (zeros_for n) at (omega arith) ea in
    ap₂ take e9 eq
    ∙ stored_front p (at + 4) low (omega arith)
    ∙ ap (λ (x : List ℕ). x ++ bytes32 low)
    (ap (take (at + 4)) ep ∙ stored_front b at high (omega arith) ∙ ap (λ (x : List ℕ). x ++ bytes32 high) head)
    ∙ append_assoc (t ++ (0x80 ∷ replicate (zeros_for n) 0)) (bytes32 high) (bytes32 low)
    ∙ append_assoc t (0x80 ∷ replicate (zeros_for n) 0) (bytes32 high ++ bytes32 low)
    ∙ ap₂ (λ (x y : ℕ). t ++ (0x80 ∷ (replicate (zeros_for n) 0 ++ (bytes32 x ++ bytes32 y)))) (eh ∙ high_half n) (el ∙ low_half n)

-- the same, with the length's two words cut from the count of bytes
pub ending_law : (t b p q : List ℕ) (n at high low : ℕ) → length t ≡ n % 64 → length b ≡ 128
    → b ≡ t ++ (0x80 ∷ replicate (127 - length t) 0)
    → at ≡ length t + zeros_for n + 1 → p ≡ sets b at (bytes32 high) → q ≡ sets p (at + 4) (bytes32 low)
    → high ≡ n / 536870912 % 2 ^ 32 → low ≡ n % 536870912 * 8 → take (length t + (zeros_for n + 9)) q ≡ t ++ padding n
ending_law t b p q n at high low ht lb eb ea ep eq eh el =
    ending_halves t b p q n at high low ht lb eb ea ep eq (eh ∙ high_word n ∙ sym (high_half n)) (el ∙ low_word n ∙ sym (low_half n))
