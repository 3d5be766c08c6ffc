-- The judgement of an open: a list of tests, reasons 1 to 17 in document 01's order ("Order of judgement"), of which the first that applies
-- answers. The tests stand in groups; where 6 to 15 are skipped, the list is without them. docs/RULES.md, 5.1, 5.2.
use Rattle.std.specs.Prelude.{Bool, true, false, not, List, [], ◌∷◌, ◌++◌, ℕ, ◌/◌, ◌%◌, ◌^◌, eqb, ltb, length, get_or}
use Rattle.choice.specs.Choice.{pick, both, either}
use Rattle.wire.specs.Bytes.{same}
use Rattle.model.specs.Protocol.{protocol_in, protocol_out, seed_in}
use Rattle.model.specs.Rows.{listed, by_page, is_unknown, is_open_row, is_master}
use Rattle.model.specs.Codes.{legal_len}
use Rattle.model.specs.Totals.{total_of}
use Rattle.model.specs.declared.Need.{Need}
use Rattle.units.specs.declared.UnitState.{UnitState}
use Rattle.units.specs.declared.UnitState.TheVariants.{Unused, Used, Unsound}
use Rattle.units.specs.Unit.{method, step, policy_tag, identifier}
use Rattle.judge.specs.Command.{code_of, page_of, length_field, is_bare, is_change, need_for, descriptor_of, check_value_of}
use Rattle.judge.specs.Descriptor.{format, key_version, cap_method, algorithm, expiration, permissions, cap_tag, descriptor_type, descriptor_length, descriptor_id}
use Rattle.judge.specs.Faults.{wrong_format, wrong_method, wrong_algorithm, expired, lacks_need, wrong_tag, wrong_descriptor}
use Rattle.judge.specs.Keys.{key_found, key_used, tag_for}
use Rattle.judge.specs.Seen.{Seen}

-- a reason, and whether it applies
pub record Test : Type 0 where
  pub reason : ℕ
  pub applies : Bool

abbrev pub test : ℕ → Bool → Test
test r b = record { reason = r; applies = b }

-- the first that applies, 0 where none does
abbrev pub first : List Test → ℕ
first [] = 0
first (t ∷ ts) = pick t.applies t.reason (first ts)

abbrev pub is_unused : UnitState → Bool
is_unused Unused = true
is_unused Used = false
is_unused Unsound = false

abbrev pub is_unsound : UnitState → Bool
is_unsound Unused = false
is_unsound Used = false
is_unsound Unsound = true

-- ---- 1 to 4

-- unit above 7, or its record sound and unused; its record unsound
unfoldable pub unit_tests : ℕ → UnitState → List Test
unit_tests u state = test 1 (either (ltb 7 u) (is_unused state)) ∷ test 0x1b (is_unsound state) ∷ []

-- command empty or code unknown
unfoldable pub code_tests : List ℕ → List Test
code_tests c = test 2 (either (eqb (length c) 0) (not (listed (code_of c)))) ∷ []

-- length neither bare nor wrapped
unfoldable pub length_tests : List ℕ → List Test
length_tests c = test 3 (not (legal_len (code_of c) (length c))) ∷ []

-- A2h/B5h: protocol byte 1 not 07h, page in bytes 2-3 unlisted, or bit 7 of byte 4 set
unfoldable pub wrong_protocol : List ℕ → Bool
wrong_protocol c = either (not (eqb (get_or c 1 0) 0x07)) (either (is_unknown (need_for c)) (eqb (get_or c 4 0 / 2 ^ 7 % 2) 1))

unfoldable pub protocol_tests : List ℕ → List Test
protocol_tests c = test 4 (both (by_page (code_of c)) (wrong_protocol c)) ∷ []

-- ---- 6 to 15, against the unit's record and its key set

-- does CAPKEY rule? On CAPKEY units, and for master rows always
unfoldable pub rules_for : List ℕ → List ℕ → Bool
rules_for own c = either (eqb (method own) 1) (is_master (need_for c))

-- are 6 to 15 skipped? By open rows, even wrapped, and by a bare command on a NOSEC unit unless master
unfoldable pub skips_guard : List ℕ → List ℕ → Bool
skips_guard own c = either (is_open_row (need_for c)) (both (is_bare c) (not (rules_for own c)))

-- bare, and the unit is CAPKEY or the row master
unfoldable pub bare_tests : Bool → List ℕ → List Test
bare_tests rules c = test 6 (both (is_bare c) rules) ∷ []

-- the form of the descriptor d; rules says whether CAPKEY rules
unfoldable pub form_tests : Bool → List ℕ → List Test
form_tests rules d =
    test 7 (wrong_format (format d)) ∷
    test 8 (wrong_method rules (cap_method d)) ∷
    test 9 (wrong_algorithm rules (algorithm d)) ∷
    []

-- its facts, against what the command needs, the unit's record and the clock
unfoldable pub fact_tests : Need → List ℕ → List ℕ → ℕ → List Test
fact_tests need own d clock =
    test 10 (expired (expiration d) clock) ∷
    test 11 (lacks_need need (permissions d)) ∷
    test 12 (wrong_tag (cap_tag d) (policy_tag own)) ∷
    test 13 (wrong_descriptor (descriptor_type d) (descriptor_length d) (descriptor_id d) (identifier own)) ∷
    []

-- its key and the integrity check value, where CAPKEY rules: no such key; the value differs
unfoldable pub found_tests : Bool → List ℕ → Bool → Bool → List ℕ → List Test
found_tests rules keys master change d = test 14 (both rules (not (key_found keys master change (key_version d)))) ∷ []

unfoldable pub value_tests : Bool → List ℕ → Bool → Bool → List ℕ → List ℕ → List ℕ → List Test
value_tests rules keys master change d value token =
    test 15 (both rules (not (same (tag_for (key_used keys master change (key_version d)) d token) value))) ∷ []

-- 6 to 14, of a command that does not skip them
unfoldable pub credential_tests : List ℕ → List ℕ → List ℕ → ℕ → List Test
credential_tests own keys c clock =
    bare_tests (rules_for own c) c ++
    (form_tests (rules_for own c) (descriptor_of c) ++
    (fact_tests (need_for c) own (descriptor_of c) clock ++
    found_tests (rules_for own c) keys (is_master (need_for c)) (is_change c) (descriptor_of c)))

unfoldable pub guard_tests : List ℕ → List ℕ → List ℕ → List ℕ → ℕ → List Test
guard_tests own keys c token clock =
    pick (skips_guard own c) []
    (credential_tests own keys c clock ++
    value_tests (rules_for own c) keys (is_master (need_for c)) (is_change c) (descriptor_of c) (check_value_of c) token)

-- ---- 16 and 17: B5h whose bytes 6-9 are not the page's total; IN 0012h with step 0

unfoldable pub page_tests : List ℕ → List ℕ → List Test
page_tests keys c =
    test 16 (both (eqb (code_of c) protocol_out) (not (eqb (length_field c) (total_of (page_of c))))) ∷
    test 17 (both (both (eqb (code_of c) protocol_in) (eqb (page_of c) seed_in)) (eqb (step keys) 0)) ∷
    []

-- ---- the whole list, of the command c with a token at a clock

-- 1 to 3
unfoldable pub earlier_tests : Seen → List ℕ → List Test
earlier_tests s c = unit_tests s.unit s.state ++ (code_tests c ++ length_tests c)

-- 4 and everything after it
unfoldable pub later_tests : List ℕ → List ℕ → List ℕ → List ℕ → ℕ → List Test
later_tests own keys c token clock = protocol_tests c ++ (guard_tests own keys c token clock ++ page_tests keys c)

unfoldable pub open_tests : Seen → List ℕ → List ℕ → ℕ → List Test
open_tests s c token clock = earlier_tests s c ++ later_tests s.own s.keys c token clock

-- the reason that an open refuses for, 0 where there is none
unfoldable pub open_reason : Seen → List ℕ → List ℕ → ℕ → ℕ
open_reason s c token clock = first (open_tests s c token clock)

-- was 15 judged? Where CAPKEY rules, 6 to 15 are not skipped, and nothing before 15 refuses
unfoldable pub check_judged : Seen → List ℕ → ℕ → Bool
check_judged s c clock =
    both (both (rules_for s.own c) (not (skips_guard s.own c)))
    (eqb (first (earlier_tests s c ++ (protocol_tests c ++ credential_tests s.own s.keys c clock))) 0)
