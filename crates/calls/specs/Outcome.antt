-- What calls are lent, and what they give: document 01's number and values of the answer, and every lent byte as it is left.
-- docs/RULES.md, 1.1, 1.2.
use Rattle.std.specs.Prelude.{Bool, List, ℕ, eqb, length}
use Rattle.choice.specs.Choice.{both}
use Rattle.model.specs.Paper.{Paper, paper_of}
use Rattle.model.specs.declared.Answer.{Answer}

-- ---- build, abort and reset are lent one table

pub record TableOutcome : Type 0 where
  pub answer : Paper
  pub table : List ℕ

abbrev pub leaves : Answer → List ℕ → TableOutcome
leaves a t = record { answer = paper_of a; table = t }

-- ---- open and close are lent both tables and the reply

pub record Tables : Type 0 where
  pub units : List ℕ
  pub slots : List ℕ

abbrev pub tables : List ℕ → List ℕ → Tables
tables us ss = record { units = us; slots = ss }

pub record Lent : Type 0 where
  pub tabled : Tables
  pub reply : List ℕ

abbrev pub lent : Tables → List ℕ → Lent
lent t r = record { tabled = t; reply = r }

pub record Outcome : Type 0 where
  pub answer : Paper
  pub left : Lent

abbrev pub gives : Answer → Lent → Outcome
gives a l = record { answer = paper_of a; left = l }

-- the same buffers with another slot table, and what a call on the slots alone gives
abbrev pub with_slots : List ℕ → Lent → Lent
with_slots ss l = lent (tables l.tabled.units ss) l.reply

abbrev pub on_slots : Lent → TableOutcome → Outcome
on_slots l o = record { answer = o.answer; left = with_slots o.table l }

-- a unit table of 4,096 bytes, a slot table of 8,192, a reply of 512: else H1
unfoldable pub right_lengths : ℕ → ℕ → ℕ → Bool
right_lengths us ss rs = both (eqb us 4096) (both (eqb ss 8192) (eqb rs 512))

abbrev pub rightly_lent : Lent → Bool
rightly_lent l = right_lengths (length l.tabled.units) (length l.tabled.slots) (length l.reply)
