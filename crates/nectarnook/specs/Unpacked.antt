-- A packed answer taken apart, as the macros of include/nectarnook.h take it apart: document 01's number and values.
use Prim.{Unit}
use Rattle.std.specs.Prelude.{List, [], ◌∷◌, ℕ, ◌-◌, ◌/◌, ◌%◌, ◌^◌, ◌<◌, eqb}
use Rattle.choice.specs.Choice.{pick}
use Rattle.model.specs.Paper.{No, A, H, Paper, paper_of}
use Rattle.model.specs.declared.Answer.{Answer}

-- ---- the fields

abbrev pub answer_byte : ℕ → ℕ
answer_byte r = r % 256

abbrev pub status_byte : ℕ → ℕ
status_byte r = r / 2 ^ 8 % 256

abbrev pub key_byte : ℕ → ℕ
key_byte r = r / 2 ^ 16 % 256

abbrev pub code_byte : ℕ → ℕ
code_byte r = r / 2 ^ 24 % 256

abbrev pub qualifier_byte : ℕ → ℕ
qualifier_byte r = r / 2 ^ 32 % 256

abbrev pub reason_byte : ℕ → ℕ
reason_byte r = r / 2 ^ 40 % 256

abbrev pub count_bits : ℕ → ℕ
count_bits r = r / 2 ^ 48 % 1024

-- ---- the answer

abbrev pub paper : No → List ℕ → Paper
paper n vs = record { no = n; values = vs }

-- the number and the values of an answer, from its fields
unfoldable pub read_as : ℕ → ℕ → ℕ → ℕ → ℕ → ℕ → ℕ → Paper
read_as answer status key code qualifier reason count =
    pick (eqb answer 0) (paper (A 0) (status ∷ count ∷ []))
    (pick (eqb answer 1) (paper (A 1) (count ∷ []))
    (pick (eqb answer 2) (paper (A 2) (status ∷ []))
    (pick (eqb answer 3) (paper (A 3) (status ∷ key ∷ code ∷ qualifier ∷ reason ∷ []))
    (pick (eqb answer 4) (paper (A 4) (status ∷ []))
    (paper (H (answer - 0x10)) [])))))

unfoldable pub paper_in : ℕ → Paper
paper_in r = read_as (answer_byte r) (status_byte r) (key_byte r) (code_byte r) (qualifier_byte r) (reason_byte r) (count_bits r)

-- do the values fit their places? Those of A3 are bytes, a count or a slot has ten bits
abbrev pub limit : No → ℕ
limit (A n) = pick (eqb n 3) 256 1024
limit (H n) = 0

abbrev pub AllBelow : ℕ → List ℕ → Type 0
AllBelow b [] = Unit
AllBelow b (v ∷ vs) = (v < b) × AllBelow b vs

abbrev pub FitsItsBytes : Answer → Type 0
FitsItsBytes a = AllBelow (limit (paper_of a).no) (paper_of a).values
