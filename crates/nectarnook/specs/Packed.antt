-- The number that a call of the C face returns: document 01's number and values of the answer, packed into 64 bits; and what such a
-- call gives, that number with every lent byte as it is left. docs/RULES.md, 1.2.
use Rattle.std.specs.Prelude.{List, ℕ, ◌+◌, ◌*◌, ◌%◌, ◌^◌, eqb, get_or}
use Rattle.choice.specs.Choice.{pick}
use Rattle.model.specs.Paper.{No, A, H, Paper, paper_of}
use Rattle.model.specs.declared.Answer.{Answer}
use Rattle.calls.specs.Outcome.{TableOutcome, Lent, Outcome}

-- bits 0-7 the answer, 8-15 status, 16-23 sense key, 24-31 additional code, 32-39 qualifier, 40-47 reason, 48-57 count or slot
unfoldable pub word : ℕ → ℕ → ℕ → ℕ → ℕ → ℕ → ℕ → ℕ
word answer status key code qualifier reason count =
    answer + status * 2 ^ 8 + key * 2 ^ 16 + code * 2 ^ 24 + qualifier * 2 ^ 32 + reason * 2 ^ 40 + count % 1024 * 2 ^ 48

-- A0 to A4 are 00h to 04h and H1 to H5 11h to 15h; a value that the answer does not have is zero
unfoldable pub packed_by : No → List ℕ → ℕ
packed_by (A n) vs =
    let v : ℕ → ℕ = λ i. get_or vs i 0 in
    pick (eqb n 0) (word n (v 0) 0 0 0 0 (v 1))
    (pick (eqb n 1) (word n 0 0 0 0 0 (v 0))
    (word n (v 0) (v 1) (v 2) (v 3) (v 4) 0))
packed_by (H n) vs = word (0x10 + n) 0 0 0 0 0 0

abbrev pub packed_paper : Paper → ℕ
packed_paper p = packed_by p.no p.values

abbrev pub packed : Answer → ℕ
packed a = packed_paper (paper_of a)

-- what a call gives that is lent all three buffers
pub record Returned : Type 0 where
  pub result : ℕ
  pub left : Lent

abbrev pub returned : ℕ → Lent → Returned
returned r l = record { result = r; left = l }

abbrev pub packed_out : Outcome → Returned
packed_out o = returned (packed_paper o.answer) o.left

-- what a call gives that is lent one table
pub record ReturnedOne : Type 0 where
  pub result : ℕ
  pub table : List ℕ

abbrev pub returned_one : ℕ → List ℕ → ReturnedOne
returned_one r t = record { result = r; table = t }

abbrev pub packed_one : TableOutcome → ReturnedOne
packed_one o = returned_one (packed_paper o.answer) o.table
