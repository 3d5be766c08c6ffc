-- The padding of a message to whole blocks of 64 bytes, after FIPS 180-4, section 5.1.1, in bytes; SHA-1 and SHA-256 have the same.
-- docs/RULES.md, 8.1.
use Rattle.std.specs.Prelude.{ℕ, ◌+◌, ◌-◌, ◌*◌, ◌/◌, ◌%◌, ◌^◌, List, ◌∷◌, ◌++◌, length, replicate}
use Rattle.words.specs.Words.{bytes32}

-- how many zero bytes follow the byte 80h after a message of n bytes: with the seven bits of that byte they are the k zero bits of
-- the standard, the least k with l + 1 + k ≡ 448 mod 512 where l is 8n (PaddingLaws, `zeros_solve` and `zeros_least`)
unfoldable pub zeros_for : ℕ → ℕ
zeros_for n = (119 - n % 64) % 64

-- the 64-bit block that is equal to l = 8n, as two words. The standard stops at l < 2^64; past it the block is l modulo 2^64
unfoldable pub length_block : ℕ → List ℕ
length_block n = bytes32 (n * 8 / 2 ^ 32 % 2 ^ 32) ++ bytes32 (n * 8 % 2 ^ 32)

-- what is appended to a message of n bytes: a one bit, zero bits, the length
unfoldable pub padding : ℕ → List ℕ
padding n = 0x80 ∷ (replicate (zeros_for n) 0 ++ length_block n)

-- the padded message
unfoldable pub padded : List ℕ → List ℕ
padded m = m ++ padding (length m)

-- how many blocks the padded message of n bytes has (PaddingLaws, `padded_blocks`)
unfoldable pub block_count : ℕ → ℕ
block_count n = (n + 8) / 64 + 1
