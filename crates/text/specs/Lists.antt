-- Lists of texts: one text with a line for each.
use Rattle.std.specs.Prelude.{List, ℕ, zero, suc, ◌+◌, take, drop}
use Rattle.text.specs.Scan.{index_of}

-- the line with number k, counted from 0, without its newline (0Ah); no bytes where there is none
unfoldable pub line_of : ℕ → List ℕ → List ℕ
line_of zero t = take (index_of 0x0a t) t
line_of (suc k) t = line_of k (drop (index_of 0x0a t + 1) t)
