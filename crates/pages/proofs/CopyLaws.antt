-- Laws of a copy from the front, byte by byte: after i bytes of s went into d, it is `take i s ++ drop i d`.
use Rattle.std.specs.Prelude.{◌≡◌, List, ◌++◌, ℕ, ◌+◌, ◌≤◌, ◌<◌, length, get_or, take, drop, set}
use Rattle.std.proofs.Common.{arith, zero-add, add-one, length-take-le}
use Rattle.std.proofs.Math.Seq.{paste-suc}
use Rattle.wire.specs.Bytes.{patch}

-- one byte more
pub copy_more : (d s : List ℕ) (i b : ℕ) → i < length s → i < length d → b ≡ get_or s i 0
    → set (take i s ++ drop i d) i b ≡ take (i + 1) s ++ drop (i + 1) d
copy_more d s i b hs hd e = rw (add-one i, e) (simp zero-add at (paste-suc d 0 s i 0 (omega arith) hs))

-- n bytes are a patch
pub copy_patch : (d s : List ℕ) (n : ℕ) → n ≤ length s → take n s ++ drop n d ≡ patch d 0 (take n s)
unfolding patch
copy_patch d s n h = rw (length-take-le n s h)
