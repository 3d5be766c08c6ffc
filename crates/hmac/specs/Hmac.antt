-- HMAC, after RFC 2104, section 2, over any hash. docs/RULES.md, 8.2.
use Rattle.std.specs.Prelude.{ℕ, ◌+◌, ◌-◌, List, ◌++◌, map, length, replicate, leb}
use Rattle.std.specs.Int.Bits.{bit_xor}
use Rattle.choice.specs.Choice.{pick}
use Rattle.fips180.specs.Sha1 as sha1

-- a hash: B, the bytes of its blocks; H, its digest of a message; and how many blocks that digest runs
pub record Hash : Type 0 where
  pub block : ℕ
  pub digest : List ℕ → List ℕ
  pub blocks : List ℕ → ℕ

abbrev pub ipad : ℕ
ipad = 0x36

abbrev pub opad : ℕ
opad = 0x5c

-- a key longer than B bytes is hashed first
unfoldable pub shortened : Hash → List ℕ → List ℕ
shortened h k = pick (leb (length k) h.block) k (h.digest k)

-- zeros appended up to n bytes
unfoldable pub extended : ℕ → List ℕ → List ℕ
extended n k = k ++ replicate (n - length k) 0

-- K as a string of B bytes
unfoldable pub key_block : Hash → List ℕ → List ℕ
key_block h k = extended h.block (shortened h k)

-- k XOR the byte pad, repeated
unfoldable pub masked : ℕ → List ℕ → List ℕ
masked pad k = map (λ b. bit_xor b pad) k

-- the message of the inner pass: (K XOR ipad, text)
unfoldable pub inner_text : Hash → List ℕ → List ℕ → List ℕ
inner_text h k m = masked ipad (key_block h k) ++ m

-- the message of the outer pass: (K XOR opad, H (K XOR ipad, text))
unfoldable pub outer_text : Hash → List ℕ → List ℕ → List ℕ
outer_text h k m = masked opad (key_block h k) ++ h.digest (inner_text h k m)

-- H (K XOR opad, H (K XOR ipad, text))
unfoldable pub hmac : Hash → List ℕ → List ℕ → List ℕ
hmac h k m = h.digest (outer_text h k m)

-- the blocks that a key longer than B bytes costs before the two passes
unfoldable pub key_blocks : Hash → List ℕ → ℕ
key_blocks h k = pick (leb (length k) h.block) 0 (h.blocks k)

-- the blocks that the HMAC of m under k runs: those of the key, of the inner pass and of the outer pass
unfoldable pub mac_blocks : Hash → List ℕ → List ℕ → ℕ
mac_blocks h k m = key_blocks h k + (h.blocks (inner_text h k m) + h.blocks (outer_text h k m))

-- SHA-1 as a hash
abbrev pub by_sha1 : Hash
by_sha1 = record { block = 64; digest = sha1.sha1; blocks = sha1.blocks }
