-- Laws of lists of texts: how the lines are counted.
use Rattle.std.specs.Prelude.{◌≡◌, List, ℕ, suc, ◌+◌, ◌-◌, ◌<◌, take, drop}
use Rattle.std.proofs.Common.{arith}
use Rattle.text.specs.Scan.{index_of}
use Rattle.text.specs.Lists.{line_of}

-- one line less to be counted
pub line_next : (k i : ℕ) (t : List ℕ) → i < k → line_of (k - i) t ≡ line_of (k - (i + 1)) (drop (index_of 0x0a t + 1) t)
unfolding line_of
line_next k i t h = let e : k - i ≡ suc (k - (i + 1)) = omega arith in rw e

pub line_here : (n : ℕ) (t : List ℕ) → n ≡ 0 → take (index_of 0x0a t) t ≡ line_of n t
unfolding line_of
line_here n t z = rw z
