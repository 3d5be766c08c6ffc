-- A list by its descriptors: how they are laid out, and document 02's causes of reason 20, each a test of the descriptors alone. Statements
-- cite it (LaidLaws); no contract does.
use Rattle.std.specs.Prelude.{Bool, false, not, List, [], ◌∷◌, ◌++◌, ℕ, suc, eqb, ltb, length}
use Rattle.choice.specs.Choice.{pick, both, either}
use Rattle.model.specs.Codes.{within}
use Rattle.extension.specs.Extension.{is_empty}

pub record Descriptor : Type 0 where
  pub type : ℕ
  pub body : List ℕ

-- one behind the other: type byte, length byte, body bytes
abbrev pub laid : List Descriptor → List ℕ
laid [] = []
laid (d ∷ ds) = d.type ∷ length d.body ∷ (d.body ++ laid ds)

abbrev pub count : List Descriptor → ℕ
count [] = 0
count (d ∷ ds) = suc (count ds)

abbrev pub is_carrier : Descriptor → Bool
is_carrier d = eqb d.type 0x40

abbrev pub is_passed_over : Descriptor → Bool
is_passed_over d = within 0x41 0x4F d.type

-- how many are 40h
abbrev pub carriers : List Descriptor → ℕ
carriers [] = 0
carriers (d ∷ ds) = pick (is_carrier d) (suc (carriers ds)) (carriers ds)

-- is a type neither 40h nor 41h to 4Fh?
abbrev pub other_type : List Descriptor → Bool
other_type [] = false
other_type (d ∷ ds) = either (not (either (is_carrier d) (is_passed_over d))) (other_type ds)

-- is the length of a 40h other than 78?
abbrev pub other_length : List Descriptor → Bool
other_length [] = false
other_length (d ∷ ds) = either (both (is_carrier d) (not (eqb (length d.body) 78))) (other_length ds)

-- the body of the first 40h
abbrev pub carrier_body : List Descriptor → List ℕ
carrier_body [] = []
carrier_body (d ∷ ds) = pick (is_carrier d) d.body (carrier_body ds)

-- the causes of reason 20 in document 02's order, of the descriptors ds with the bytes `rest` behind them, which are none or a descriptor
-- that is cut off
unfoldable pub causes : List Descriptor → List ℕ → List Bool
causes ds rest =
    other_type ds ∷
    eqb (count ds) 0 ∷
    ltb 4 (count ds) ∷
    eqb (carriers ds) 0 ∷
    ltb 1 (carriers ds) ∷
    other_length ds ∷
    not (is_empty rest) ∷
    []

abbrev pub any_of : List Bool → Bool
any_of [] = false
any_of (t ∷ ts) = either t (any_of ts)
