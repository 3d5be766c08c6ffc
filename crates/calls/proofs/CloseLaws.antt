-- Laws of close: how the call goes, test by test.
use Rattle.std.specs.Prelude.{◌≡◌, Bool, true, false, List, [], ℕ, ◌<◌, eqb, leb, length}
use Rattle.std.proofs.Math.Path.{sym}
use Rattle.std.proofs.Common.{ap, ◌∙◌, arith, leb-true, le-leb, eq-eqb, ne_eqb}
use Rattle.std.proofs.lemmas.Bool.{lt-leb}
use Rattle.choice.specs.ChoiceLaws.{both_true}
use Rattle.wire.proofs.PatchLaws.{patch_none}
use Rattle.model.specs.Protocol.{protocol_out, set_attributes}
use Rattle.model.specs.Refusal.{refusal}
use Rattle.model.specs.declared.Answer.{Answer}
use Rattle.model.specs.declared.Answer.TheVariants.{Good, Run, H1, H3}
use Rattle.slots.specs.Slot.{slot_at, slot_state_of, slot_unit, slot_command, slot_token, is_open, freed}
use Rattle.slots.proofs.SlotLaws.{is_open_state}
use Rattle.slots.specs.declared.SlotState.TheVariants.{Open}
use Rattle.model.specs.Totals.{total_of}
use Rattle.judge.specs.declared.facts.Facts.{Facts}
use Rattle.judge.specs.Command.{code_of, page_of, facts_of}
use Rattle.judge.specs.Seen.{Seen, seen}
use Rattle.pages.specs.Out.{new_method, new_tag, wrong_list}
use Rattle.pages.specs.Effects.{attributes_set, new_keys}
use Rattle.calls.specs.Outcome.{TableOutcome, leaves, Lent, lent, tables, Outcome, gives, rightly_lent}
use Rattle.calls.specs.Slots.{holds}
use Rattle.calls.specs.Whole.{Asked, attributes, key_set, close_reason, is_replied, made_by, passed, laid, stored, whole_reason, whole}
use Rattle.calls.proofs.WholeLaws.{held_code, not_replied, judged_silent, judged_passed, judged_refused}
use Rattle.calls.specs.Close.{held_by, close_out}
use Rattle.calls.specs.Parts.{on_units}

-- a slot that holds a command is one of sixteen, and open
pub holds_open : (slots : List ℕ) (s : ℕ) → holds slots s ≡ true → (s < 16) × (slot_state_of (slot_at s slots) ≡ Open)
unfolding holds
holds_open slots s e =
    let p = both_true (leb s 15) (is_open (slot_state_of (slot_at s slots))) e in
    let h = leb-true s 15 p.0 in
    (omega arith, is_open_state (slot_state_of (slot_at s slots)) p.1)

pub holds_high : (slots : List ℕ) (s : ℕ) → 15 < s → false ≡ holds slots s
unfolding holds
holds_high slots s h = rw (lt-leb s 15 h)

pub holds_low : (slots : List ℕ) (s : ℕ) → s < 16 → (b : Bool) → b ≡ is_open (slot_state_of (slot_at s slots)) → b ≡ holds slots s
unfolding holds
holds_low slots s h b e = rw (le-leb s 15 (omega arith)) e

-- what a slot holds writes nothing into the reply
pub held_silent : (units rec d : List ℕ) (clock : ℕ) → slot_state_of rec ≡ Open → (whole units (held_by rec) d clock).written ≡ []
unfolding whole
held_silent units rec d clock e =
    judged_silent _ (slot_command rec) d (not_replied (slot_command rec) (held_code rec e)) (whole_reason units (held_by rec) d clock)

-- a parameter list that passed, by the facts of its command
pub list_asked : (c d : List ℕ) (f : Facts) → f ≡ facts_of c → f.code ≡ protocol_out
    → (eqb (code_of c) protocol_out ≡ true → (length d ≡ total_of (page_of c)) × (wrong_list (page_of c) d ≡ false))
    → (length d ≡ total_of f.page) × (wrong_list f.page d ≡ false)
list_asked c d f ef e h =
    let p = h (eq-eqb (code_of c) protocol_out (ap (λ (x : Facts). x.code) (sym ef) ∙ e)) in (rw ef p.0, rw ef p.1)

-- the record that an Out page makes anew
module _ (s : Seen) (page : ℕ) (d : List ℕ) where
  pub made_attributes : page ≡ set_attributes → made_by s page d ≡ attributes (attributes_set (new_method d) (new_tag d) s.own)
  unfolding made_by
  made_attributes e = rw e

  pub made_keys : (page ≡ set_attributes → ⊥) → made_by s page d ≡ key_set (new_keys page d s.keys)
  unfolding made_by
  made_keys n = rw (ne_eqb page set_attributes n)

-- ---- a command that passed, and one that is refused

module _ (units : List ℕ) (u : ℕ) (c d : List ℕ) (n : is_replied c ≡ false) where
  pub finishes_out : eqb (code_of c) protocol_out ≡ true → (us : List ℕ) → us ≡ laid units u (made_by (seen units u) (page_of c) d)
      → leaves (Good 0) us ≡ on_units (stored units u (passed (seen units u) c d))
  unfolding passed
  finishes_out t us e = rw (t, e)

  pub finishes_run : eqb (code_of c) protocol_out ≡ false → leaves Run units ≡ on_units (stored units u (passed (seen units u) c d))
  unfolding passed
  finishes_run f = rw (f, n)

module _ (units : List ℕ) (k : Asked) (d : List ℕ) (clock r : ℕ) (hr : r ≡ whole_reason units k d clock) where
  pub whole_passed : r ≡ 0 → (o : TableOutcome) → o ≡ on_units (stored units k.unit (passed (seen units k.unit) k.command d))
      → o ≡ on_units (whole units k d clock)
  unfolding whole
  whole_passed z o e = e ∙ sym (rw (← hr, judged_passed (seen units k.unit) k.command d r z))

  pub whole_refused : (r ≡ 0 → ⊥) → (a : Answer) → a ≡ refusal r → leaves a units ≡ on_units (whole units k d clock)
  unfolding whole
  whole_refused n a e = rw (← hr, judged_refused (seen units k.unit) k.command d r n, e)

-- unit, command and token as the code reads them from a slot's record
module _ (units rec d : List ℕ) (clock u : ℕ) (c t : List ℕ) (eu : u ≡ slot_unit rec) (ec : c ≡ slot_command rec)
    (et : t ≡ slot_token rec) where
  pub held_reason : (r : ℕ) → r ≡ close_reason (seen units u) c t d clock → r ≡ whole_reason units (held_by rec) d clock
  held_reason r h = rw (eu, ec, et) at h

  pub held_passed : (o : TableOutcome) → o ≡ on_units (stored units u (passed (seen units u) c d))
      → o ≡ on_units (stored units (held_by rec).unit (passed (seen units (held_by rec).unit) (held_by rec).command d))
  held_passed o h = rw (eu, ec) at h

-- ---- how the call goes

module _ (l : Lent) (s : ℕ) (d : List ℕ) (clock : ℕ) (b : Bool) (hb : b ≡ rightly_lent l) where
  pub close_h1 : b ≡ false → gives H1 l ≡ close_out l s d clock
  unfolding close_out
  close_h1 f = rw (← hb, f)

  module _ (t : b ≡ true) (h : Bool) (hh : h ≡ holds l.tabled.slots s) where
    pub close_h3 : h ≡ false → gives H3 l ≡ close_out l s d clock
    unfolding close_out
    close_h3 f = rw (← hb, t, ← hh, f)

    pub close_held : h ≡ true → (a : Answer) (us : List ℕ)
        → leaves a us ≡ on_units (whole l.tabled.units (held_by (slot_at s l.tabled.slots)) d clock)
        → gives a (lent (tables us (freed s l.tabled.slots)) l.reply) ≡ close_out l s d clock
    unfolding close_out
    close_held g a us e =
        let rec = slot_at s l.tabled.slots in
        let silent = held_silent l.tabled.units rec d clock (holds_open l.tabled.slots s (sym hh ∙ g)).1 in
        rw (← hb, t, ← hh, g, silent) (ap laid_out e ∙ rw patch_none)
      where
        laid_out : TableOutcome → Outcome
        laid_out o = record { answer = o.answer; left = lent (tables o.table (freed s l.tabled.slots)) l.reply }
