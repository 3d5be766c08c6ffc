-- A whole command, from document 01's rules and K4's alone. It is local, then stored: what it sees of the unit table, its token, data and
-- clock give an answer, the bytes that are written at the reply's front, and the record that it makes anew; that record is then laid into
-- the table. Slots have no part in it. docs/RULES.md, 7.1.
use Rattle.std.specs.Prelude.{Bool, not, List, [], ◌∷◌, ◌++◌, ℕ, ◌*◌, eqb, length}
use Rattle.choice.specs.Choice.{both, pick}
use Rattle.wire.specs.Bytes.{patch}
use Rattle.model.specs.Protocol.{protocol_in, protocol_out, seed_in, set_attributes}
use Rattle.model.specs.Refusal.{refusal}
use Rattle.model.specs.declared.Answer.{Answer}
use Rattle.model.specs.declared.Answer.TheVariants.{Good, Run}
use Rattle.units.specs.Unit.{keeper_of}
use Rattle.judge.specs.Command.{code_of, page_of, length_field}
use Rattle.judge.specs.Seen.{Seen, seen}
use Rattle.judge.specs.Judgement.{Test, test, first, open_tests}
use Rattle.pages.specs.In.{reply_of}
use Rattle.pages.specs.Out.{new_method, new_tag, wrong_list}
use Rattle.pages.specs.Effects.{attributes_set, new_keys}

-- a command as it is asked for: at a unit, with a token
pub record Asked : Type 0 where
  pub unit : ℕ
  pub command : List ℕ
  pub token : List ℕ

abbrev pub asked : ℕ → List ℕ → List ℕ → Asked
asked u c t = record { unit = u; command = c; token = t }

-- ---- judged by 1 to 19

-- 18 and 19, of B5h: data length not bytes 6-9; page code, page length, a field or a named zero wrong
unfoldable pub list_tests : List ℕ → List ℕ → List Test
list_tests c d =
    test 18 (both (eqb (code_of c) protocol_out) (not (eqb (length d) (length_field c)))) ∷
    test 19 (both (eqb (code_of c) protocol_out) (wrong_list (page_of c) d)) ∷
    []

-- everything that an open judges, and then 18 and 19
unfoldable pub close_reason : Seen → List ℕ → List ℕ → List ℕ → ℕ → ℕ
close_reason s c token d clock = first (open_tests s c token clock ++ list_tests c d)

-- ---- local

-- the record that a command makes anew: none, its unit's, or that of its key set
pub data Made : Type 0 where
  nothing : Made
  attributes : List ℕ → Made
  key_set : List ℕ → Made

pub record Local : Type 0 where
  pub answer : Answer
  pub written : List ℕ
  pub made : Made

abbrev pub local : Answer → List ℕ → Made → Local
local a w m = record { answer = a; written = w; made = m }

-- is it handled here? A2h is, but for page 0012h
unfoldable pub is_replied : List ℕ → Bool
is_replied c = both (eqb (code_of c) protocol_in) (not (eqb (page_of c) seed_in))

-- the reply to a page's allocation length
abbrev pub reply_to : Seen → List ℕ → List ℕ
reply_to s c = reply_of (page_of c) (length_field c) s.own s.keys

-- Set Attributes makes the unit's record anew, the other pages that of its key set
unfoldable pub made_by : Seen → ℕ → List ℕ → Made
made_by s page d =
    pick (eqb page set_attributes) (attributes (attributes_set (new_method d) (new_tag d) s.own)) (key_set (new_keys page d s.keys))

-- a command that passed: B5h does what its page says, a page handled here is replied, the rest is run by medium or crypto block
unfoldable pub passed : Seen → List ℕ → List ℕ → Local
passed s c d =
    pick (eqb (code_of c) protocol_out) (local (Good 0) [] (made_by s (page_of c) d))
    (pick (is_replied c) (local (Good (length (reply_to s c))) (reply_to s c) nothing)
    (local Run [] nothing))

-- by the reason that it is refused for, 0 where there is none
unfoldable pub judged : Seen → List ℕ → List ℕ → ℕ → Local
judged s c d reason = pick (eqb reason 0) (passed s c d) (local (refusal reason) [] nothing)

-- ---- then stored

abbrev pub laid : List ℕ → ℕ → Made → List ℕ
laid units u nothing = units
laid units u (attributes rec) = patch units (u * 512) rec
laid units u (key_set rec) = patch units (keeper_of units u * 512) rec

pub record Whole : Type 0 where
  pub answer : Answer
  pub written : List ℕ
  pub units : List ℕ

abbrev pub stored : List ℕ → ℕ → Local → Whole
stored units u x = record { answer = x.answer; written = x.written; units = laid units u x.made }

abbrev pub whole_reason : List ℕ → Asked → List ℕ → ℕ → ℕ
whole_reason units k d clock = close_reason (seen units k.unit) k.command k.token d clock

unfoldable pub whole : List ℕ → Asked → List ℕ → ℕ → Whole
whole units k d clock = stored units k.unit (judged (seen units k.unit) k.command d (whole_reason units k d clock))
