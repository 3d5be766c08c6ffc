-- A running SHA-1.
use Rattle.std.specs.Prelude.{ℕ, ◌*◌, ◌/◌, ◌%◌, ◌≡◌, List, length, take, drop}
use Rattle.md.specs.Chain.{absorb, Taken}
use Rattle.fips180.specs.declared.block.State.{State}
use Rattle.fips180.specs.Sha1.{compressed, initial}
use Rattle.fips180.specs.declared.Running.{Running}

-- the running state r has taken in m
abbrev pub Holds : Running → List ℕ → Type 0
Holds r m = Taken compressed initial r.state r.buffer r.total m

-- r is what the hash value h at a block's end becomes by the part p, with the count n: whole blocks absorbed, the rest in the buffer
pub record Continued (h : State) (p : List ℕ) (n : ℕ) (r : Running) : Type 0 where
  pub state : r.state ≡ absorb compressed (length p / 64) h p
  pub buffer : take (length p % 64) r.buffer ≡ drop (length p / 64 * 64) p
  pub total : r.total ≡ n
