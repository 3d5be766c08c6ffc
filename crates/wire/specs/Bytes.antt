-- Bytes in lists: parts, big-endian numbers, zeros, equality, and one write. Reads are total: past a list's end stand zeros.
-- docs/RULES.md, 9.
use Rattle.std.specs.Prelude.{ℕ, zero, suc, ◌+◌, ◌*◌, ◌/◌, ◌%◌, ◌<◌, Bool, true, false, List, [], ◌∷◌, ◌++◌, eqb, length, get_or, take, drop}
use Rattle.choice.specs.Choice.{both}

-- are the two lists the same? (SameLaws: `same_true` and `same_refl`)
unfoldable pub same : List ℕ → List ℕ → Bool
same [] [] = true
same [] (y ∷ ys) = false
same (x ∷ xs) [] = false
same (x ∷ xs) (y ∷ ys) = both (eqb x y) (same xs ys)

-- bytes: every element is below 256
abbrev pub AreBytes : List ℕ → Type 0
AreBytes l = (i : ℕ) → get_or l i 0 < 256

-- the n bytes of l from a on
abbrev pub part : ℕ → ℕ → List ℕ → List ℕ
part a n l = take n (drop a l)

-- the big-endian number in the n bytes of l from a on
unfoldable pub number : ℕ → ℕ → List ℕ → ℕ
number zero a l = 0
number (suc n) a l = number n a l * 256 + get_or l (a + n) 0

-- the n big-endian bytes of x
unfoldable pub bytes_of : ℕ → ℕ → List ℕ
bytes_of zero x = []
bytes_of (suc n) x = bytes_of n (x / 256) ++ (x % 256 ∷ [])

-- are the n bytes of l from a on zero?
unfoldable pub zeros : ℕ → ℕ → List ℕ → Bool
zeros zero a l = true
zeros (suc n) a l = both (eqb (get_or l a 0) 0) (zeros n (a + 1) l)

-- xs with ys in the place of as many bytes from a on
unfoldable pub patch : List ℕ → ℕ → List ℕ → List ℕ
patch xs a ys = take a xs ++ (ys ++ drop (length ys) (drop a xs))
