-- Membership in a list of numbers. docs/RULES.md, 9.
use Rattle.std.specs.Prelude.{ℕ, Bool, false, List, [], ◌∷◌, eqb}
use Rattle.choice.specs.Choice.{either}

-- is the number in the list?
abbrev pub is_in : List ℕ → ℕ → Bool
is_in [] n = false
is_in (x ∷ xs) n = either (eqb n x) (is_in xs n)
