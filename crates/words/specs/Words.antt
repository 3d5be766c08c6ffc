-- Words of 32 bits, after FIPS 180-4: operations (section 2.2.2), the three functions that SHA-1's four are made of (4.1.1),
-- and the big-endian order of a word's bytes (3.1). A word is a number below 2^32. The checker can compute all of it. docs/RULES.md, 8.1.
use Rattle.std.specs.Prelude.{ℕ, zero, suc, ◌+◌, ◌-◌, ◌*◌, ◌/◌, ◌%◌, ◌^◌, min, max, List}
use Rattle.wire.specs.Bytes.{number, bytes_of}

-- an operation on the bits of two words, n of them, the last first
unfoldable pub bits : ℕ → (ℕ → ℕ → ℕ) → ℕ → ℕ → ℕ
bits zero f x y = 0
bits (suc n) f x y = bits n f (x / 2) (y / 2) * 2 + f (x % 2) (y % 2)

-- x ∧ y, x ∨ y and x ⊕ y, bit by bit: the lesser bit, the greater one, their sum without carry
unfoldable pub and32 : ℕ → ℕ → ℕ
and32 x y = bits 32 min x y

unfoldable pub or32 : ℕ → ℕ → ℕ
or32 x y = bits 32 max x y

unfoldable pub xor32 : ℕ → ℕ → ℕ
xor32 x y = bits 32 (λ a b. (a + b) % 2) x y

-- ¬ x
unfoldable pub not32 : ℕ → ℕ
not32 x = 2 ^ 32 - 1 - x

-- x + y, modulo 2^32
unfoldable pub add32 : ℕ → ℕ → ℕ
add32 x y = (x + y) % 2 ^ 32

-- ROTL n (x) = (x << n) ∨ (x >> 32 - n)
unfoldable pub rotl : ℕ → ℕ → ℕ
rotl n x = or32 ((x * 2 ^ n) % 2 ^ 32) (x / 2 ^ (32 - n))

-- Ch (x, y, z) = (x ∧ y) ⊕ (¬ x ∧ z)
unfoldable pub ch : ℕ → ℕ → ℕ → ℕ
ch x y z = xor32 (and32 x y) (and32 (not32 x) z)

-- Parity (x, y, z) = x ⊕ y ⊕ z
unfoldable pub parity : ℕ → ℕ → ℕ → ℕ
parity x y z = xor32 (xor32 x y) z

-- Maj (x, y, z) = (x ∧ y) ⊕ (x ∧ z) ⊕ (y ∧ z)
unfoldable pub maj : ℕ → ℕ → ℕ → ℕ
maj x y z = xor32 (xor32 (and32 x y) (and32 x z)) (and32 y z)

-- the word at index i of a list of bytes, and the four bytes of a word, the highest first
abbrev pub word_at : List ℕ → ℕ → ℕ
word_at l i = number 4 i l

abbrev pub bytes32 : ℕ → List ℕ
bytes32 x = bytes_of 4 x
