-- The blank record: its check, computed; that it is the only sound record of zeros; and a list put over zeros.
use Rattle.std.specs.Prelude.{◌≡◌, refl, Bool, true, List, [], ◌∷◌, ◌++◌, ℕ, ◌+◌, ◌-◌, ◌≤◌, length, take, drop, replicate}
use Rattle.std.proofs.Common.{◌∙◌, sym, ap, ap₂, append_assoc, arith, length-append, length-drop, take-append-drop, take_all, drop_at}
use Rattle.std.proofs.lemmas.List.{length-replicate, replicate-append-replicate}
use Rattle.choice.specs.Choice.{both}
use Rattle.choice.specs.ChoiceLaws.{both_true}
use Rattle.wire.specs.Bytes.{same, part, number, bytes_of, zeros, patch}
use Rattle.wire.proofs.SameLaws.{same_true, same_refl, same_is}
use Rattle.wire.proofs.ZeroLaws.{zeros_part, zeros_replicate}
use Rattle.words.specs.Words.{bits, and32, or32, xor32, not32, add32, rotl, ch, parity, maj}
use Rattle.md.specs.Padding.{zeros_for, length_block, padding, padded}
use Rattle.md.specs.Chain.{absorb}
use Rattle.fips180.specs.Sha1.{f, K, initial, mixed, W, schedule, turned, round, rounds, plus, compressed, digest_of, blocks, sha1}
use Rattle.seal.specs.Seal.{checked, seal, blank, blank_record}
use Rattle.seal.specs.SealLaws.{seal_length, seal_checked, seal_zeros}

-- the SHA-1 of 492 zeros
abbrev pub blank_check : List ℕ
blank_check =
    0xaa ∷ 0xc4 ∷ 0x93 ∷ 0xc3 ∷ 0xed ∷ 0x21 ∷ 0x3d ∷ 0x17 ∷ 0xb8 ∷ 0x3b ∷ 0x2e ∷ 0x8a ∷ 0x28 ∷ 0x3b ∷ 0xa5 ∷ 0xf4 ∷ 0xdd ∷ 0xf1 ∷ 0x62 ∷ 0xd4 ∷ []

-- worked out by the checker from the definition of SHA-1
computed : sha1 (replicate 492 0) ≡ blank_check
unfolding sha1 blocks absorb digest_of compressed plus padded padding zeros_for length_block bytes_of schedule W mixed number rounds round turned f K ch parity maj not32 xor32 and32 or32 bits rotl add32 initial
computed = refl

pub blank_length : length blank ≡ 512
unfolding blank
blank_length = length-replicate {A = ℕ} 512 0

pub blank_is : (l : List ℕ) (n : ℕ) → l ≡ replicate n 0 → n ≡ 512 → l ≡ blank
unfolding blank
blank_is l n e h = e ∙ ap (λ (k : ℕ). replicate k 0) h

blank_front : take 492 blank ≡ replicate 492 0
unfolding blank
blank_front = refl

pub blank_check_lem : sha1 (take 492 blank) ≡ blank_check
blank_check_lem = ap sha1 blank_front ∙ computed

-- the record in two parts
two_parts : take 492 blank ++ (blank_check ++ drop 20 (drop 492 blank)) ≡ replicate 492 0 ++ blank_check
unfolding blank
two_parts = refl

pub blank_parts : blank_record ≡ replicate 492 0 ++ blank_check
unfolding blank_record seal patch
blank_parts = rw blank_check_lem two_parts

pub record_length : length blank_record ≡ 512
unfolding blank_record
record_length = seal_length blank blank_length

pub record_checked : checked blank_record ≡ true
unfolding blank_record
record_checked = seal_checked blank blank_length

pub blank_run : (n a : ℕ) → a + n ≤ 512 → zeros n a blank ≡ true
unfolding blank
blank_run n a h = zeros_replicate 512 n a h

pub record_zeros : zeros 492 0 blank_record ≡ true
unfolding blank_record
record_zeros = seal_zeros blank blank_length 492 0 (omega arith) (blank_run 492 0 (omega arith))

-- zeros up to 491 and the check are this record
pub blank_only : (l : List ℕ) → length l ≡ 512 → zeros 492 0 l ≡ true → part 492 20 l ≡ blank_check → l ≡ blank_record
blank_only l full z c =
    let front : take 492 l ≡ replicate 492 0 = zeros_part 492 0 l (omega arith) z in
    let back : drop 492 l ≡ blank_check = sym (take_all 20 (drop 492 l) (rw length-drop (omega arith))) ∙ c in
    sym (take-append-drop 492 l) ∙ ap₂ (λ (x y : List ℕ). x ++ y) front back ∙ sym blank_parts

pub blank_sound : (l : List ℕ) → length l ≡ 512 → checked l ≡ true → zeros 492 0 l ≡ true → l ≡ blank_record
unfolding checked
blank_sound l full k z =
    let front : take 492 l ≡ replicate 492 0 = zeros_part 492 0 l (omega arith) z in
    blank_only l full z (same_true (part 492 20 l) (sha1 (take 492 l)) k ∙ ap sha1 front ∙ computed)

record_check : part 492 20 blank_record ≡ blank_check
record_check = rw blank_parts refl

-- the test by constant and zeros is equality with the blank record
blank_test : (l : List ℕ) → length l ≡ 512 → both (same (part 492 20 l) blank_check) (zeros 492 0 l) ≡ same l blank_record
blank_test l full =
    same_is (both (same (part 492 20 l) blank_check) (zeros 492 0 l)) l blank_record
    (λ e. let p = both_true (same (part 492 20 l) blank_check) (zeros 492 0 l) e in blank_only l full p.1 (same_true (part 492 20 l) blank_check p.0))
    (λ e. rw (e, record_zeros, record_check, same_refl blank_check))

-- the constant decides whether zeros are looked for
pub blank_where : (l c : List ℕ) (t : Bool) → length l ≡ 512 → c ≡ blank_check → same (part 492 20 l) c ≡ t
    → both t (zeros 492 0 l) ≡ same l blank_record
blank_where l c t full ec et = ap (λ (x : Bool). both x (zeros 492 0 l)) (sym et ∙ ap (same (part 492 20 l)) ec) ∙ blank_test l full

-- zeros with the constant behind them
pub blank_made : (l : List ℕ) → l ≡ replicate 512 0 → patch l 492 blank_check ≡ blank_record
unfolding blank_record seal blank
blank_made l e = rw (e, blank_check_lem)

-- ---- a list put over zeros

drop_zeros : (n m k : ℕ) → n + m ≡ k → drop n (replicate k 0) ≡ replicate {A = ℕ} m 0
drop_zeros n m k e =
    ap (λ (x : ℕ). drop n (replicate {A = ℕ} x 0)) (sym e) ∙ ap (drop {A = ℕ} n) (sym (replicate-append-replicate {A = ℕ} n m 0))
    ∙ drop_at {A = ℕ} (replicate n 0) (replicate m 0) n (length-replicate {A = ℕ} n 0)

blank_filled : (x : List ℕ) → length x ≤ 512 → patch blank 0 x ≡ x ++ replicate (512 - length x) 0
unfolding blank patch
blank_filled x h = ap (λ (l : List ℕ). x ++ l) (drop_zeros (length x) (512 - length x) 512 (omega arith))

-- zeros behind it make no difference
pub blank_longer : (x : List ℕ) (n : ℕ) → length x + n ≤ 512 → patch blank 0 (x ++ replicate n 0) ≡ patch blank 0 x
blank_longer x n h =
    let long : length (x ++ replicate n 0) ≡ length x + n =
    length-append x (replicate n 0) ∙ ap (λ (k : ℕ). length x + k) (length-replicate {A = ℕ} n 0) in
    let left : n + (512 - length (x ++ replicate n 0)) ≡ 512 - length x = omega arith in
    blank_filled (x ++ replicate n 0) (omega arith)
    ∙ append_assoc x (replicate n 0) (replicate (512 - length (x ++ replicate n 0)) 0)
    ∙ ap (λ (l : List ℕ). x ++ l) (replicate-append-replicate n (512 - length (x ++ replicate n 0)) 0 ∙ ap (λ (k : ℕ). replicate k 0) left)
    ∙ sym (blank_filled x (omega arith))
