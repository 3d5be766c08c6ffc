-- The words of a line, parted by spaces and tabs.
use Rattle.std.specs.Prelude.{◌≡◌, Bool, true, false, not, List, ℕ, ◌-◌, ◌≤◌, ◌<◌, min, eqb, length, get_or}
use Rattle.choice.specs.Choice.{both, either, pick}
use Rattle.wire.specs.Bytes.{part}

-- a space or a tab
unfoldable pub is_gap : ℕ → Bool
is_gap c = either (eqb c 0x20) (eqb c 0x09)

-- r is the first place of the line from `at` on where a gap stands (true) or none (false), or the line's end
abbrev pub First : Bool → ℕ → List ℕ → ℕ → Type 0
First gap at line r =
    (min at (length line) ≤ r) × ((r ≤ length line)
    × (((i : ℕ) → at ≤ i → i < r → is_gap (get_or line i 0) ≡ not gap) × (r < length line → is_gap (get_or line r 0) ≡ gap)))

-- a word starts where no gap stands and ends at the next gap; at the line's end, where there is none, it has no bytes. Where it ends, and
-- its bytes
abbrev pub WordEnd : ℕ → List ℕ → ℕ → Type 0
WordEnd at line end = (start : ℕ) × ((First false at line start) × (First true start line end))

abbrev pub WordAt : ℕ → List ℕ → List ℕ → Type 0
WordAt at line word =
    (start : ℕ) × ((end : ℕ) × ((First false at line start) × ((First true start line end) × (word ≡ part start (end - start) line))))

-- the line without the carriage return (0Dh) that it may end with
unfoldable pub unreturned : List ℕ → List ℕ
unreturned line =
    pick (both (not (eqb (length line) 0)) (eqb (get_or line (length line - 1) 0) 0x0d)) (part 0 (length line - 1) line) line
