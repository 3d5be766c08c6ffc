-- Laws of a whole command: the reason in its order, what it tells where nothing refuses, and that the same is answered at an open.
use Rattle.std.specs.Prelude.{◌≡◌, Bool, not, ℕ, eqb, length, get_or, drop}
use Rattle.std.proofs.Math.Path.{refl, ap}
use Rattle.std.proofs.Common.{◌∙◌, arith, get_or-take, get_or-drop, eqb-true, ne_eqb}
use Rattle.std.proofs.Math.Bool.{true, false}
use mathlib.Core.List.{List, [], ◌++◌}
use Rattle.std.proofs.lemmas.Bool.{not-false}
use Rattle.choice.specs.Choice.{both, pick}
use Rattle.choice.specs.ChoiceLaws.{second_false}
use Rattle.wire.specs.Bytes.{part}
use Rattle.model.specs.Protocol.{protocol_in, protocol_out, seed_in}
use Rattle.model.specs.Codes.{data_out}
use Rattle.model.proofs.CodeLaws.{legal_some}
use Rattle.model.specs.Refusal.{refusal}
use Rattle.model.specs.Totals.{total_of}
use Rattle.model.specs.declared.Answer.TheVariants.{Good, Run}
use Rattle.slots.specs.Slot.{slot_state_of, slot_command, command_length}
use Rattle.slots.proofs.SlotLaws.{open_sound}
use Rattle.slots.specs.declared.SlotState.TheVariants.{Open}
use Rattle.judge.specs.Command.{code_of, page_of, length_field}
use Rattle.judge.specs.Seen.{Seen}
use Rattle.judge.specs.Judgement.{first, page_tests, open_tests, open_reason}
use Rattle.judge.specs.Order.{or_else}
use Rattle.judge.proofs.TestLaws.{first_append, first_none, none_first, else_none, second_asked, second_left, NoneApply, append_none, named_append}
use Rattle.judge.proofs.JudgementLaws.{open_named, none_refuse}
use Rattle.pages.specs.Out.{wrong_list}
use Rattle.calls.specs.Whole.{list_tests, close_reason, nothing, local, is_replied, reply_to, made_by, passed, judged}

-- ---- the reason: that of an open, and where there is none that of the list

module _ (s : Seen) (c token d : List ℕ) (clock : ℕ) where
  module _ (e : ℕ) (he : e ≡ open_reason s c token clock) where
    pub close_late : e ≡ 0 → (r : ℕ) → r ≡ first (list_tests c d) → r ≡ close_reason s c token d clock
    unfolding open_reason close_reason
    close_late z r h = second_asked (open_tests s c token clock) (list_tests c d) (open_named s c token clock) e he z r h

    pub close_early : (e ≡ 0 → ⊥) → e ≡ close_reason s c token d clock
    unfolding open_reason close_reason
    close_early n = second_left (open_tests s c token clock) (list_tests c d) (open_named s c token clock) e he n

  -- where a close refuses nothing, neither does an open at its clock
  pub close_none : close_reason s c token d clock ≡ 0 → (open_reason s c token clock ≡ 0) × NoneApply (list_tests c d)
  unfolding open_reason close_reason list_tests
  close_none e =
      let all = first_none (open_tests s c token clock ++ list_tests c d) (named_append (open_tests s c token clock) (list_tests c d) (open_named s c token clock) refl) e in
      let p = append_none (open_tests s c token clock) (list_tests c d) all in
      (none_first (open_tests s c token clock) p.0, p.1)

-- a parameter list that passed: as long as its page says, and nothing wrong with it
pub list_passed : (s : Seen) (c token d : List ℕ) (clock : ℕ) → close_reason s c token d clock ≡ 0 → eqb (code_of c) protocol_out ≡ true
    → (length d ≡ total_of (page_of c)) × (wrong_list (page_of c) d ≡ false)
unfolding list_tests page_tests
list_passed s c token d clock e t =
    let n = close_none s c token d clock e in
    let page = (none_refuse s c token clock n.0).page in
    let total = eqb-true (length_field c) (total_of (page_of c)) (not-false _ (second_false (eqb (code_of c) protocol_out) _ t page.0)) in
    let long = eqb-true (length d) (length_field c) (not-false _ (second_false (eqb (code_of c) protocol_out) _ t n.1.0)) in
    (long ∙ total, second_false (eqb (code_of c) protocol_out) (wrong_list (page_of c) d) t n.1.1.0)

-- ---- the list is judged only for B5h, and B5h is data-out

-- a code that carries no data out is not B5h
pub out_code : (x : ℕ) → data_out x ≡ false → eqb x protocol_out ≡ false
unfolding data_out
out_code x h = by_cases (eqb x protocol_out) refl
  where
    by_cases : (b : Bool) → eqb x protocol_out ≡ b → b ≡ false
    by_cases true e = rw (eqb-true x protocol_out e) at h
    by_cases false e = refl

module _ (s : Seen) (c token d : List ℕ) (clock : ℕ) where
  list_none : eqb (code_of c) protocol_out ≡ false → first (list_tests c d) ≡ 0
  unfolding list_tests
  list_none e = rw e

  pub same_reason : eqb (code_of c) protocol_out ≡ false → close_reason s c token d clock ≡ open_reason s c token clock
  unfolding open_reason close_reason
  same_reason e =
      first_append (open_tests s c token clock) (list_tests c d) (open_named s c token clock)
      ∙ ap (or_else (first (open_tests s c token clock))) (list_none e) ∙ else_none (first (open_tests s c token clock))

  -- what the data are has no part then
  pub passed_same : eqb (code_of c) protocol_out ≡ false → (e : List ℕ) → passed s c d ≡ passed s c e
  unfolding passed
  passed_same n e = rw n

-- a data-out command is no page that is replied
pub not_replied : (c : List ℕ) → data_out (code_of c) ≡ true → is_replied c ≡ false
unfolding is_replied data_out
not_replied c h = by_cases (eqb (code_of c) protocol_in) refl
  where
    by_cases : (b : Bool) → eqb (code_of c) protocol_in ≡ b → both b (not (eqb (page_of c) seed_in)) ≡ false
    by_cases true e =
        absurd (let z : false ≡ true = rw (eqb-true (code_of c) protocol_in e) at h in let q : ◌≡◌ {A = ℕ} 0 1 = cc in omega arith)
    by_cases false e = refl

-- a command that a slot holds carries data out
pub held_code : (rec : List ℕ) → slot_state_of rec ≡ Open → data_out (code_of (slot_command rec)) ≡ true
unfolding slot_command
held_code rec e =
    let s = open_sound rec e in
    let n = legal_some (get_or rec 8 0) (command_length rec) s.legal in
    let q : get_or (part 8 (command_length rec) rec) 0 0 ≡ get_or rec 8 0 = get_or-take (command_length rec) (drop 8 rec) 0 0 (omega arith) ∙ get_or-drop 8 rec 0 0 in
    ap data_out q ∙ s.out

-- ---- what a command does that makes no record anew, and writes nothing

module _ (s : Seen) (c d : List ℕ) where
  -- one that is not B5h makes none
  pub passed_keeps : eqb (code_of c) protocol_out ≡ false → (passed s c d).made ≡ nothing
  unfolding passed
  passed_keeps n = rw n (by_page_lem (is_replied c))
    where
      by_page_lem : (b : Bool) → (pick b (local (Good (length (reply_to s c))) (reply_to s c) nothing) (local Run [] nothing)).made ≡ nothing
      by_page_lem true = refl
      by_page_lem false = refl

  -- one that is not replied writes nothing
  pub passed_silent : is_replied c ≡ false → (passed s c d).written ≡ []
  unfolding passed
  passed_silent n = rw n (by_code (eqb (code_of c) protocol_out))
    where
      by_code : (b : Bool) → (pick b (local (Good 0) [] (made_by s (page_of c) d)) (local Run [] nothing)).written ≡ []
      by_code true = refl
      by_code false = refl

  pub judged_silent : is_replied c ≡ false → (r : ℕ) → (judged s c d r).written ≡ []
  unfolding judged
  judged_silent n r = by_reason (eqb r 0)
    where
      by_reason : (b : Bool) → (pick b (passed s c d) (local (refusal r) [] nothing)).written ≡ []
      by_reason true = passed_silent n
      by_reason false = refl

-- ---- judged: nothing refused, or refused

module _ (s : Seen) (c d : List ℕ) (r : ℕ) where
  pub judged_passed : r ≡ 0 → judged s c d r ≡ passed s c d
  unfolding judged
  judged_passed z = rw z

  pub judged_refused : (r ≡ 0 → ⊥) → judged s c d r ≡ local (refusal r) [] nothing
  unfolding judged
  judged_refused n = rw (ne_eqb r 0 n)
