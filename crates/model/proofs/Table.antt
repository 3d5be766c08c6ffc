-- A table that holds what a rule gives at each place: antt computes such a table whole, and holds a constant to it at once.
use Prim.Native.Nat.{ℕ, zero, suc, ◌+◌, ◌<◌}
use mathlib.Core.Path.{◌≡◌, ◌∙◌, sym, ap}
use mathlib.Core.List.{List, [], ◌∷◌}
use native.Mathlib.Nat.{add-zero, zero-add, add-suc, suc-add, le_of_suc-le-suc, not-suc-le-zero}
use lib.ListN.{get_or}

-- what the rule gives at n places, from i on
abbrev pub table : (ℕ → ℕ) → ℕ → ℕ → List ℕ
table rule i zero = []
table rule i (suc n) = rule i ∷ table rule (suc i) n

from : (rule : ℕ → ℕ) (n i k : ℕ) → k < n → get_or (table rule i n) k 0 ≡ rule (i + k)
from rule zero i k h = absurd (not-suc-le-zero h)
from rule (suc n) i zero h = ap rule (sym (add-zero i))
from rule (suc n) i (suc k) h = from rule n (suc i) k (le_of_suc-le-suc h) ∙ ap rule (suc-add i k ∙ sym (add-suc i k))

pub table_at : (rule : ℕ → ℕ) (n k : ℕ) → k < n → get_or (table rule 0 n) k 0 ≡ rule k
table_at rule n k h = from rule n 0 k h ∙ ap rule (zero-add k)
