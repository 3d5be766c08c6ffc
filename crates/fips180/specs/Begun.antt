-- A message schedule that is begun: what the code of a block lends from round to round.
use Rattle.std.specs.Prelude.{ℕ, ◌≡◌, List, length, take}
use Rattle.fips180.specs.Sha1.{schedule}

-- w has room for the 80 words of the schedule of a block, and holds the block's own sixteen and the first t
pub record Begun (w block : List ℕ) (t : ℕ) : Type 0 where
  pub room : length w ≡ 80
  pub own : take 16 w ≡ schedule block 16
  pub words : take t w ≡ schedule block t
