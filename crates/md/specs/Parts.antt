-- Taking in parts one after another: over any running state R and any relation Holds r m, "the state r has taken in m".
use Rattle.std.specs.Prelude.{ℕ, List, [], ◌∷◌, ◌++◌}

-- the parts joined, in their order
unfoldable pub joined : List (List ℕ) → List ℕ
joined [] = []
joined (p ∷ ps) = p ++ joined ps

module _ {R : Type 0} (Holds : R → List ℕ → Type 0) where
  -- t is r after the part p: whatever r had taken in, t has taken in that followed by p
  abbrev pub Takes : R → List ℕ → R → Type 0
  Takes r p t = (m : List ℕ) → Holds r m → Holds t (m ++ p)

  -- t is r after the parts ps, one after another
  pub data TakesAll : R → List (List ℕ) → R → Type 0 where
    none : {r : R} → TakesAll r [] r
    more : {r s t : R} {p : List ℕ} {ps : List (List ℕ)} → Takes r p s → TakesAll s ps t → TakesAll r (p ∷ ps) t
