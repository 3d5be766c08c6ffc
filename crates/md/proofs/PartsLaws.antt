-- Parts taken in one after another are the whole taken in.
use Rattle.std.specs.Prelude.{ℕ}
use mathlib.Core.List.{List, ◌++◌, append_assoc, append-nil}
use Rattle.md.specs.Parts.{joined, Takes, TakesAll, none, more}

module _ {R : Type 0} (Holds : R → List ℕ → Type 0) where
  pub parts_whole : {r t : R} {ps : List (List ℕ)} → TakesAll Holds r ps t → Takes Holds r (joined ps) t
  unfolding joined
  parts_whole none = λ m h. rw append-nil h
  parts_whole (more {p = p} {ps = ps} one rest) = λ m h. rw append_assoc at (parts_whole rest (m ++ p) (one m h))
