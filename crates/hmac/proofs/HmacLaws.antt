-- What is true of HMAC whatever the hash: the length of the result, keys shorter than a block, as long and longer, and the count of
-- blocks as a function of the lengths of key and message.
use Rattle.std.specs.Prelude.{ℕ, ◌+◌, ◌-◌, ◌≤◌, ◌<◌, ◌≡◌, refl, Bool, true, false, List, ◌++◌, length, replicate, leb}
use Rattle.std.proofs.Common.{sym, ◌∙◌, append_assoc, append-nil, arith, length-append, le-leb, leb-true, leb-false}
use Rattle.std.proofs.Math.Path.{ap}
use Rattle.std.proofs.lemmas.List.{length-map, length-replicate, replicate-append-replicate}
use Rattle.std.specs.Int.Bits.{bit_xor}
use Rattle.std.proofs.lemmas.Bool.{lt-leb}
use Rattle.choice.specs.Choice.{pick}
use Rattle.md.specs.Padding.{block_count}
use Rattle.fips180.proofs.Sha1Laws.{sha1_length, sha1_blocks}
use Rattle.hmac.specs.Hmac.{Hash, ipad, opad, shortened, extended, key_block, masked, inner_text, outer_text, hmac, key_blocks, mac_blocks, by_sha1}

-- what a hash owes to the laws below: its digests have `size` bytes, which fit a block, and its count goes by the message's length
pub record Lawful (h : Hash) (size : ℕ) (count : ℕ → ℕ) : Type 0 where
  pub sized : (m : List ℕ) → length (h.digest m) ≡ size
  pub fits : size ≤ h.block
  pub counted : (m : List ℕ) → h.blocks m ≡ count (length m)

pub sha1_lawful : Lawful by_sha1 20 block_count
sha1_lawful = record { sized = sha1_length; fits = omega arith; counted = sha1_blocks }

-- ---- keys: no longer than a block, just as long, longer (RFC 2104, sections 2 and 3)

pub short_key : (h : Hash) (k : List ℕ) → length k ≤ h.block → key_block h k ≡ extended h.block k
unfolding key_block shortened
short_key h k l = rw (le-leb (length k) h.block l)

pub long_key : (h : Hash) (k : List ℕ) → h.block < length k → key_block h k ≡ extended h.block (h.digest k)
unfolding key_block shortened
long_key h k l = rw (lt-leb (length k) h.block l)

extended_none : (n : ℕ) (k : List ℕ) → n - length k ≡ 0 → extended n k ≡ k
unfolding extended
extended_none n k e = rw e (append-nil k)

pub full_key : (h : Hash) (k : List ℕ) → length k ≡ h.block → key_block h k ≡ k
full_key h k e = short_key h k (omega arith) ∙ extended_none h.block k (omega arith)

-- two keys with one block are as good as one another
pub hmac_by_block : (h : Hash) (k k' m : List ℕ) → key_block h k ≡ key_block h k' → hmac h k m ≡ hmac h k' m
unfolding hmac outer_text inner_text
hmac_by_block h k k' m e = ap (λ (x : List ℕ). h.digest (masked opad x ++ h.digest (masked ipad x ++ m))) e

-- a key longer than a block is as good as its digest
pub hmac_long_key : (h : Hash) (k m : List ℕ) → h.block < length k → length (h.digest k) ≤ h.block → hmac h k m ≡ hmac h (h.digest k) m
hmac_long_key h k m l d = hmac_by_block h k (h.digest k) m (long_key h k l ∙ sym (short_key h (h.digest k) d))

-- zeros after a key that is shorter than a block change nothing
pub hmac_zeros : (h : Hash) (k m : List ℕ) (n : ℕ) → length k + n ≤ h.block → hmac h (k ++ replicate n 0) m ≡ hmac h k m
unfolding extended
hmac_zeros h k m n l =
    let e : length (k ++ replicate n 0) ≡ length k + n = length-append k (replicate n 0) ∙ ap (λ (x : ℕ). length k + x) (length-replicate n 0) in
    let e₂ : n + (h.block - length (k ++ replicate n 0)) ≡ h.block - length k = omega arith in
    hmac_by_block h (k ++ replicate n 0) k m
    (short_key h (k ++ replicate n 0) (omega arith)
    ∙ append_assoc k (replicate n 0) (replicate (h.block - length (k ++ replicate n 0)) 0)
    ∙ ap (λ (x : List ℕ). k ++ x) (replicate-append-replicate n (h.block - length (k ++ replicate n 0)) 0 ∙ ap (λ (x : ℕ). replicate x 0) e₂)
    ∙ sym (short_key h k (omega arith)))

-- ---- lengths

extended_length : (n : ℕ) (k : List ℕ) → length k ≤ n → length (extended n k) ≡ n
unfolding extended
extended_length n k l = simp (length-append, length-replicate) (omega arith)

pub masked_length : (pad : ℕ) (k : List ℕ) → length (masked pad k) ≡ length k
unfolding masked
masked_length pad k = length-map k (λ b. bit_xor b pad)

module _ (h : Hash) (size : ℕ) (count : ℕ → ℕ) (lawful : Lawful h size count) where
  -- the length of the result
  pub hmac_length : (k m : List ℕ) → length (hmac h k m) ≡ size
  unfolding hmac
  hmac_length k m = lawful.sized (outer_text h k m)

  by_key : (t : Bool) (k : List ℕ) → leb (length k) h.block ≡ t → length (key_block h k) ≡ h.block
  by_key true k e = let l : length k ≤ h.block = leb-true (length k) h.block e in
      ap length (short_key h k l) ∙ extended_length h.block k l
  by_key false k e = let l : h.block < length k = leb-false (length k) h.block e in
      ap length (long_key h k l) ∙ extended_length h.block (h.digest k) (rw (lawful.sized k) lawful.fits)

  -- the key's block is a block
  pub key_block_length : (k : List ℕ) → length (key_block h k) ≡ h.block
  key_block_length k = by_key (leb (length k) h.block) k refl

  masked_key : (pad : ℕ) (k m : List ℕ) → length (masked pad (key_block h k) ++ m) ≡ h.block + length m
  masked_key pad k m =
      length-append (masked pad (key_block h k)) m ∙ ap (λ (x : ℕ). x + length m) (masked_length pad (key_block h k) ∙ key_block_length k)

  pub inner_length : (k m : List ℕ) → length (inner_text h k m) ≡ h.block + length m
  unfolding inner_text
  inner_length k m = masked_key ipad k m

  pub outer_length : (k m : List ℕ) → length (outer_text h k m) ≡ h.block + size
  unfolding outer_text
  outer_length k m = masked_key opad k (h.digest (inner_text h k m)) ∙ ap (λ (x : ℕ). h.block + x) (lawful.sized (inner_text h k m))

  -- the count of blocks goes by the lengths of key and message: nothing for a key of at most a block, else the key's own blocks; the
  -- inner pass over a block and the message; the outer pass over a block and a digest
  pub mac_blocks_lem : (k m : List ℕ) → mac_blocks h k m
      ≡ pick (leb (length k) h.block) 0 (count (length k)) + (count (h.block + length m) + count (h.block + size))
  unfolding mac_blocks key_blocks
  mac_blocks_lem k m =
      rw (lawful.counted k, lawful.counted (inner_text h k m), lawful.counted (outer_text h k m), inner_length k m, outer_length k m)
