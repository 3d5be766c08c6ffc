-- The first place of a byte in a list.
use Rattle.std.specs.Prelude.{List, [], ◌∷◌, ℕ, suc, eqb}
use Rattle.choice.specs.Choice.{pick}

-- the place of the first c in l, counted from 0; the length of l where there is none
unfoldable pub index_of : ℕ → List ℕ → ℕ
index_of c [] = 0
index_of c (x ∷ l) = pick (eqb x c) 0 (suc (index_of c l))
