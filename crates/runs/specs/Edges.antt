-- Examples on the edges (document 01), a) to l): one table of what each rule gives and what the paper has, held against each other by one
-- statement. Where a test is asked for a reason, 0 says that it passes.
use Rattle.std.specs.Prelude.{◌≡◌, refl, Bool, true, List, [], ◌∷◌, ◌++◌, ℕ, ◌-◌, ◌^◌, replicate}
use Rattle.choice.specs.Choice.{both}
use Rattle.words.specs.Words.{bits}
use Rattle.wire.specs.Bytes.{same, number, bytes_of}
use Rattle.model.specs.Paper.{No, A, H, paper_of}
use Rattle.model.specs.Protocol.{protocol_in, pages_of_in}
use Rattle.model.specs.Codes.{cdb_len, legal_len}
use Rattle.model.specs.Rows.{rows, listed, need_of}
use Rattle.units.specs.Unit.{policy_tag, identifier}
use Rattle.units.specs.declared.UnitState.TheVariants.{Used}
use Rattle.judge.specs.Descriptor.{expiration, permissions, cap_tag, descriptor_type, descriptor_length, descriptor_id}
use Rattle.judge.specs.Faults.{expired, lacks_bits, wrong_tag, wrong_descriptor}
use Rattle.judge.specs.Judgement.{first, code_tests, length_tests, fact_tests}
use Rattle.pages.specs.In.{supported_in, in_page, reply_of}
use Rattle.calls.specs.Whole.{Local, is_replied, passed}

-- what a rule gives, and what the paper has
pub record Edge : Type 0 where
  pub gives : List ℕ
  pub must : List ℕ

abbrev pub edge : List ℕ → List ℕ → Edge
edge x y = record { gives = x; must = y }

abbrev pub all_hold : List Edge → Bool
all_hold [] = true
all_hold (e ∷ es) = both (same e.gives e.must) (all_hold es)

-- ---- a) to g): reasons 10 to 13 of a descriptor, at a clock

-- a descriptor of 58 bytes with an expiration, a permission byte and a policy tag, which names a unit whose identifier is zero
unfoldable pub capability : ℕ → ℕ → ℕ → List ℕ
capability expires permission tag =
    0x10 ∷ 0x01 ∷ bytes_of 4 1 ++ (bytes_of 6 expires ++ (replicate 20 0 ++
    (permission ∷ 0 ∷ 0 ∷ 0 ∷ bytes_of 4 tag ++ (0x01 ∷ 16 ∷ replicate 16 0))))

-- a unit's record as far as these reasons read it: a policy tag, and an identifier that is zero
unfoldable pub unit_with : ℕ → List ℕ
unit_with tag = replicate 8 0 ++ (bytes_of 4 tag ++ replicate 20 0)

-- the reason for a code with such a descriptor, against a unit's tag, at a clock
abbrev pub fact_reason : ℕ → ℕ → ℕ → ℕ → ℕ → ℕ → List ℕ
fact_reason code expires permission tag unit_tag clock =
    first (fact_tests (need_of code 0) (unit_with unit_tag) (capability expires permission tag) clock) ∷ []

-- ---- k) and l): IN 0000h with an allocation length

abbrev pub in_command : ℕ → List ℕ
in_command allocation = protocol_in ∷ 0x07 ∷ bytes_of 2 pages_of_in ++ (0 ∷ 0 ∷ bytes_of 4 allocation ++ (0 ∷ 0 ∷ []))

-- an answer's letter and number, its values, and the bytes that are written
abbrev pub shown_no : No → List ℕ
shown_no (A n) = 0x41 ∷ n ∷ []
shown_no (H n) = 0x48 ∷ n ∷ []

abbrev pub shown : Local → List ℕ
shown x = shown_no (paper_of x.answer).no ++ ((paper_of x.answer).values ++ x.written)

abbrev pub in_shown : ℕ → List ℕ
in_shown allocation = shown (passed (record { unit = 0; state = Used; own = unit_with 0; keys = unit_with 0 }) (in_command allocation) [])

-- ---- the table

unfoldable pub edges : List Edge
edges =
    -- a) expiration 1000: clock 1000 passes, b) 1001 reason 10
    edge (fact_reason 0x28 1000 0x80 0 0 1000) (0 ∷ []) ∷
    edge (fact_reason 0x28 1000 0x80 0 0 1001) (10 ∷ []) ∷
    -- c) expiration 0 passes at the largest clock
    edge (fact_reason 0x28 0 0x80 0 0 (2 ^ 64 - 1)) (0 ∷ []) ∷
    -- d) 2Eh with 40h: reason 11; e) with C0h passes
    edge (fact_reason 0x2E 0 0x40 0 0 0) (11 ∷ []) ∷
    edge (fact_reason 0x2E 0 0xC0 0 0 0) (0 ∷ []) ∷
    -- f) tag 0 against unit tag 7 passes; g) 7 against 0: reason 12
    edge (fact_reason 0x28 0 0x80 0 7 0) (0 ∷ []) ∷
    edge (fact_reason 0x28 0 0x80 7 0 0) (12 ∷ []) ∷
    -- h) 28h with 10 or 88 bytes passes 3; i) with 87: reason 3
    edge (first (length_tests (0x28 ∷ replicate 9 0)) ∷ []) (0 ∷ []) ∷
    edge (first (length_tests (0x28 ∷ replicate 87 0)) ∷ []) (0 ∷ []) ∷
    edge (first (length_tests (0x28 ∷ replicate 86 0)) ∷ []) (3 ∷ []) ∷
    -- j) 7Fh: reason 2
    edge (first (code_tests (0x7F ∷ replicate 9 0)) ∷ []) (2 ∷ []) ∷
    -- k) IN 0000h, allocation 5: A0, status 00h, count 5, and 00 00 00 0C 00; l) allocation 0: A0, count 0
    edge (in_shown 5) (0x41 ∷ 0 ∷ 0x00 ∷ 5 ∷ 0x00 ∷ 0x00 ∷ 0x00 ∷ 0x0C ∷ 0x00 ∷ []) ∷
    edge (in_shown 0) (0x41 ∷ 0 ∷ 0x00 ∷ 0 ∷ []) ∷
    []

pub edges_hold : all_hold edges ≡ true
unfolding edges capability unit_with fact_tests length_tests code_tests expired lacks_bits wrong_tag wrong_descriptor
    expiration permissions cap_tag descriptor_type descriptor_length descriptor_id policy_tag identifier bits
    legal_len cdb_len listed need_of rows same number bytes_of passed is_replied reply_of in_page supported_in
edges_hold = refl
