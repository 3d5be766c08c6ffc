-- Document 01's number and values of each answer ("What a call gets and gives"). docs/RULES.md, 1.2.
use Rattle.std.specs.Prelude.{ℕ, List, [], ◌∷◌}
use Rattle.model.specs.declared.Answer.{Answer}
use Rattle.model.specs.declared.Answer.TheVariants.{Good, Parked, Run, Check, Full, H1, H2, H3, H4, H5}

-- a number of 01's table of answers, as A0 or H1
pub data No : Type 0 where
  A : ℕ → No
  H : ℕ → No

-- an answer as 01 has it: its number and the values beside it
pub record Paper : Type 0 where
  pub no : No
  pub values : List ℕ

abbrev answer : No → List ℕ → Paper
answer n vs = record { no = n; values = vs }

-- A0: status, reply byte count; A1: slot; A2: status; A3: status, sense key, additional code, qualifier, reason; A4: status
abbrev pub paper_of : Answer → Paper
paper_of (Good count) = answer (A 0) (0x00 ∷ count ∷ [])
paper_of (Parked slot) = answer (A 1) (slot.0 ∷ [])
paper_of Run = answer (A 2) (0x00 ∷ [])
paper_of (Check s) = answer (A 3) (0x02 ∷ s.key ∷ s.code ∷ s.qualifier ∷ s.reason ∷ [])
paper_of Full = answer (A 4) (0x28 ∷ [])
paper_of H1 = answer (H 1) []
paper_of H2 = answer (H 2) []
paper_of H3 = answer (H 3) []
paper_of H4 = answer (H 4) []
paper_of H5 = answer (H 5) []
