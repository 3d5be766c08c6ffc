-- What each step of a run answers, by the ledger: at any step of any run from sound tables, every call gets the answer and leaves the
-- reply that `expected` says, from the unit table and the ledger alone; and whatever was parked stays in the ledger until its own close,
-- abort or a reset is answered finally.
use Rattle.std.proofs.Math.Path.{◌≡◌, refl, ap}
use Rattle.std.proofs.Common.{sym, ◌∙◌, subst, inl, inr, arith}
use Rattle.std.specs.Prelude.{◌⊎◌, Bool, eqb, length}
use Rattle.std.proofs.Math.Bool.{true, false}
use Rattle.std.proofs.Math.Option.{Option, none, some}
use mathlib.Core.List.{List, []}
use Prim.{Unit, tt}
use Prim.Native.Nat.{ℕ, zero, suc, ◌+◌, ◌≤◌, ◌<◌}
use Rattle.std.proofs.Math.Dec.{leb}
use borrow.Author.Tests.{eqb-true, eq-eqb, leb-true}
use Rattle.choice.specs.Choice.{both, pick}
use Rattle.choice.specs.ChoiceLaws.{pick_cases, both_true}
use Rattle.wire.specs.Bytes.{patch}
use Rattle.model.specs.Answers.{is_a, is_final, slot_in, is_malformed}
use Rattle.model.proofs.AnswerLaws.{final_not_parked}
use Rattle.model.specs.declared.Answer.{Answer}
use Rattle.model.specs.declared.Answer.TheVariants.{Good, Parked, Full, H1, H2, H3}
use Rattle.slots.specs.Slot.{slot_at, slot_state_of, is_free, is_open, right_token, free_from, lowest_free, freed, all_freed}
use Rattle.std.specs.Prelude.{Option as Maybe, Some, None}
use Rattle.slots.specs.declared.SlotState.{SlotState}
use Rattle.slots.specs.declared.SlotState.TheVariants.{Free, Open, Unsound}
use Rattle.calls.specs.Outcome.{leaves, Tables, tables, Lent, lent, Outcome, gives, on_slots, rightly_lent}
use Rattle.calls.proofs.OutcomeLaws.{one_table, one_outcome, lengths_right}
use Rattle.calls.specs.Slots.{holds, abort_out, reset_out}
use Rattle.calls.specs.Whole.{Asked, whole}
use Rattle.calls.specs.Open.{parks, parked_in, reason_at_open}
use Rattle.calls.specs.Close.{held_by}
use Rattle.runs.proofs.WholeLaws.{whole_final}
use Rattle.runs.specs.Run.{Call, opens, closes, aborts, resets, Event, Meets, Ran, SoundTables, is_command}
use Rattle.runs.specs.Ledger.{Ledger, put, after, ledger_of, starts, view_by, view, to_view, Agrees, Fits, Ends, command_of, clock_of}
use Rattle.runs.specs.Expected.{Expected, says, is_vacant, vacant_from, least_vacant, entry_at, parked_at, open_expected, close_expected, aborted_as, expected, closed_as}
use Rattle.runs.proofs.StepLaws.{open_by, close_by, ledger_holds}
use Rattle.runs.proofs.Sequence.{run_fits}
use Rattle.model.specs.Codes.{data_out}
use Rattle.judge.specs.Command.{code_of}

no_true : {A : Type 0} → true ≡ false → A
no_true e = let o : ◌≡◌ {A = ℕ} 0 1 = cc in absurd (omega arith)

-- ---- slots by the ledger

-- a slot is free where the ledger has nothing, and only there; and open where it has something
state_vacant : (s : SlotState) (rec : List ℕ) (o : Option Asked) → view_by s rec ≡ to_view o → is_free s ≡ is_vacant o
state_vacant Free rec none e = refl
state_vacant Free rec (some k) e = let z : ◌≡◌ {A = ℕ} 0 1 = cc in absurd (omega arith)
state_vacant Open rec none e = let z : ◌≡◌ {A = ℕ} 0 1 = cc in absurd (omega arith)
state_vacant Open rec (some k) e = refl
state_vacant Unsound rec none e = let z : ◌≡◌ {A = ℕ} 0 1 = cc in absurd (omega arith)
state_vacant Unsound rec (some k) e = refl

state_shut : (s : SlotState) (rec : List ℕ) (o : Option Asked) → view_by s rec ≡ to_view o → is_open s ≡ false → o ≡ none
state_shut s rec none e f = refl
state_shut Free rec (some k) e f = let z : ◌≡◌ {A = ℕ} 0 1 = cc in absurd (omega arith)
state_shut Open rec (some k) e f = let z : ◌≡◌ {A = ℕ} 0 1 = cc in absurd (omega arith)
state_shut Unsound rec (some k) e f = let z : ◌≡◌ {A = ℕ} 0 1 = cc in absurd (omega arith)

module _ (slots : List ℕ) (ledger : Ledger) (agrees : Agrees slots ledger) where
  free_vacant : (i : ℕ) → i < 16 → is_free (slot_state_of (slot_at i slots)) ≡ is_vacant (ledger i)
  unfolding view
  free_vacant i h = state_vacant (slot_state_of (slot_at i slots)) (slot_at i slots) (ledger i) (agrees i h)

  from_vacant : (n i : ℕ) → i + n ≤ 16 → free_from n i slots ≡ vacant_from n i ledger
  unfolding free_from vacant_from
  from_vacant zero i h = refl
  from_vacant (suc n) i h = rw (free_vacant i (omega arith), from_vacant n (i + 1) (omega arith))

  pub least_vacant_lem : lowest_free slots ≡ least_vacant ledger
  unfolding lowest_free least_vacant
  least_vacant_lem = from_vacant 16 0 (omega arith)

  -- what a slot that holds a command has in the ledger, and one that holds none
  pub entry_held : (s : ℕ) → holds slots s ≡ true → entry_at ledger s ≡ some (held_by (slot_at s slots))
  unfolding holds
  entry_held s h = by_leb (leb s 15) refl h
    where
      by_leb : (b : Bool) → leb s 15 ≡ b → both b (is_open (slot_state_of (slot_at s slots))) ≡ true
          → pick b (ledger s) none ≡ some (held_by (slot_at s slots))
      by_leb true e q = ledger_holds slots ledger agrees s (rw (e, q))
      by_leb false e q = let z : ◌≡◌ {A = ℕ} 0 1 = cc in absurd (omega arith)

  pub entry_none : (s : ℕ) → holds slots s ≡ false → entry_at ledger s ≡ none
  unfolding holds view
  entry_none s h = by_leb (leb s 15) refl h
    where
      by_leb : (b : Bool) → leb s 15 ≡ b → both b (is_open (slot_state_of (slot_at s slots))) ≡ false → pick b (ledger s) none ≡ none
      by_leb true e q =
          let k = leb-true s 15 e in state_shut (slot_state_of (slot_at s slots)) (slot_at s slots) (ledger s) (agrees s (omega arith)) q
      by_leb false e q = refl

-- ---- one call

pub record As (x : Expected) (a : Answer) (r : List ℕ) : Type 0 where
  pub answer : a ≡ x.answer
  pub reply : r ≡ x.reply

-- an outcome that is known
as_known : (a b : Answer) (r s : List ℕ) (n m : Tables) (x : Expected) → gives a (lent n r) ≡ gives b (lent m s) → says b s ≡ x → As x a r
as_known a b r s n m x e h =
    let p = one_outcome a b (lent n r) (lent m s) (gives b (lent m s)) e refl in
    record { answer = p.0 ∙ ap (λ (y : Expected). y.answer) h; reply = ap (λ (y : Lent). y.reply) p.1 ∙ ap (λ (y : Expected). y.reply) h }

module _ (t : Tables) (ledger : Ledger) (fit : Fits t ledger) where
  right_reply : (reply : List ℕ) (b : Bool) → rightly_lent (lent t reply) ≡ b → eqb (length reply) 512 ≡ b
  right_reply reply b e = sym (lengths_right t reply fit.units_length fit.slots_length) ∙ e

  module _ (k : Asked) (clock : ℕ) (reply : List ℕ) (a : Answer) (r : List ℕ) (n : Tables) where
    abbrev x : Expected
    x = open_expected t.units ledger k clock reply

    by_slot : (f : Maybe ℕ) → says (parked_at f) reply ≡ x → gives a (lent n r) ≡ on_slots (lent t reply) (parked_in t.slots k f) → As x a r
    by_slot (Some s) h e = as_known a (Parked (record { 0 = s })) r reply n _ x e h
    by_slot None h e = as_known a Full r reply n t x e h

    open_as : Meets t (opens k clock reply) a r n → As x a r
    unfolding open_expected
    open_as =
        open_by (lent t reply) k clock (λ (o : Outcome). gives a (lent n r) ≡ o → As x a r)
        (λ h e. as_known a H1 r reply n t x e (rw (right_reply reply false h)))
        (λ h g e. as_known a H2 r reply n t x e (rw (right_reply reply true h, g)))
        (λ h g p e. by_slot (lowest_free t.slots) (rw (right_reply reply true h, g, p, least_vacant_lem t.slots ledger fit.agrees)) e)
        (λ h g p e. let w = whole t.units k [] clock in
        as_known a w.answer r (patch reply 0 w.written) n (tables w.units t.slots) x e (rw (right_reply reply true h, g, p)))

  close_as : (s : ℕ) (d : List ℕ) (clock : ℕ) (reply : List ℕ) (a : Answer) (r : List ℕ) (n : Tables)
      → Meets t (closes s d clock reply) a r n
      → As (close_expected t.units ledger s d clock reply) a r
  unfolding close_expected
  close_as s d clock reply a r n =
      close_by (lent t reply) s d clock (λ (o : Outcome). gives a (lent n r) ≡ o → As (close_expected t.units ledger s d clock reply) a r)
      (λ h e. as_known a H1 r reply n t (close_expected t.units ledger s d clock reply) e (rw (right_reply reply false h)))
      (λ h g e. as_known a H3 r reply n t (close_expected t.units ledger s d clock reply) e (rw (right_reply reply true h, entry_none t.slots ledger fit.agrees s g)))
      (λ h g e. let w = whole t.units (held_by (slot_at s t.slots)) d clock in
      as_known a w.answer r (patch reply 0 w.written) n (tables w.units (freed s t.slots)) (close_expected t.units ledger s d clock reply) e
      (rw (right_reply reply true h, entry_held t.slots ledger fit.agrees s g)))

  abort_as : (s : ℕ) (a : Answer) (r : List ℕ) (n : Tables) → Meets t (aborts s) a r n → As (says (aborted_as (entry_at ledger s)) []) a r
  unfolding abort_out
  abort_as s a r n m = by_cases (holds t.slots s) refl (rw (eq-eqb _ _ fit.slots_length) at m.0)
    where
      by_cases : (b : Bool) → holds t.slots s ≡ b
          → leaves a n.slots ≡ pick b (leaves (Good 0) (freed s t.slots)) (leaves H3 t.slots)
          → As (says (aborted_as (entry_at ledger s)) []) a r
      by_cases true q e =
          record { answer = (one_table a (Good 0) n.slots _ _ e refl).0 ∙ ap aborted_as (sym (entry_held t.slots ledger fit.agrees s q)); reply = m.2 }
      by_cases false q e =
          record { answer = (one_table a H3 n.slots _ _ e refl).0 ∙ ap aborted_as (sym (entry_none t.slots ledger fit.agrees s q)); reply = m.2 }

  reset_as : (a : Answer) (r : List ℕ) (n : Tables) → Meets t resets a r n → As (says (Good 0) []) a r
  unfolding reset_out
  reset_as a r n m =
      record { answer = (one_table a (Good 0) n.slots (all_freed t.slots) _ (rw (eq-eqb _ _ fit.slots_length) at m.0) refl).0; reply = m.2 }

  pub call_as : (k : Call) (a : Answer) (r : List ℕ) (n : Tables) → Meets t k a r n → As (expected t.units ledger k) a r
  call_as (opens k clock reply) a r n m = open_as k clock reply a r n m
  call_as (closes s d clock reply) a r n m = close_as s d clock reply a r n m
  call_as (aborts s) a r n m = abort_as s a r n m
  call_as resets a r n m = reset_as a r n m

-- ---- A1 and A4 are for commands that nothing refuses

open_waits : (units : List ℕ) (ledger : Ledger) (k : Asked) (clock : ℕ) (reply : List ℕ)
    → is_final (open_expected units ledger k clock reply).answer ≡ false
    → is_malformed (open_expected units ledger k clock reply).answer ≡ false → reason_at_open units k clock ≡ 0
unfolding open_expected
open_waits units ledger k clock reply =
    let P : Expected → Type 0 = λ x. is_final x.answer ≡ false → is_malformed x.answer ≡ false → reason_at_open units k clock ≡ 0 in
    pick_cases P (eqb (length reply) 512) _ _
    (λ a. pick_cases P (right_token (length k.token)) _ _
    (λ b. pick_cases P (parks units k clock) _ _
    (λ p f h. eqb-true _ 0 (both_true (eqb (reason_at_open units k clock) 0) (data_out (code_of k.command)) p).0)
    (λ p f h. no_true (sym (whole_final units k [] clock) ∙ f)))
    (λ b f h. no_true h))
    (λ a f h. no_true h)

close_ends : (units : List ℕ) (ledger : Ledger) (s : ℕ) (d : List ℕ) (clock : ℕ) (reply : List ℕ)
    → is_malformed (close_expected units ledger s d clock reply).answer ≡ false
    → is_final (close_expected units ledger s d clock reply).answer ≡ true
unfolding close_expected
close_ends units ledger s d clock reply =
    pick_cases (λ (x : Expected). is_malformed x.answer ≡ false → is_final x.answer ≡ true) (eqb (length reply) 512) _ _
    (λ a. by_entry_lem (entry_at ledger s)) (λ a h. no_true h)
  where
    by_entry_lem : (o : Option Asked) → is_malformed (closed_as units d clock reply o).answer ≡ false
        → is_final (closed_as units d clock reply o).answer ≡ true
    by_entry_lem none h = no_true h
    by_entry_lem (some k) h = whole_final units k d clock

waits : (units : List ℕ) (ledger : Ledger) (k : Call) (x : Asked) → is_command k ≡ true → command_of ledger k ≡ some x
    → is_final (expected units ledger k).answer ≡ false → is_malformed (expected units ledger k).answer ≡ false
    → reason_at_open units x (clock_of k) ≡ 0
waits units ledger (opens k clock reply) x c e f h =
    let same : k ≡ x = cc in subst (λ (y : Asked). reason_at_open units y clock ≡ 0) same (open_waits units ledger k clock reply f h)
waits units ledger (closes s d clock reply) x c e f h = no_true (sym (close_ends units ledger s d clock reply h) ∙ f)
waits units ledger (aborts s) x c e f h = no_true (sym c)
waits units ledger resets x c e f h = no_true (sym c)

-- ---- what is parked stays

from_least : (n i : ℕ) (ledger : Ledger) (s : ℕ) → vacant_from n i ledger ≡ Some s → is_vacant (ledger s) ≡ true
unfolding vacant_from
from_least zero i ledger s e = let z : ◌≡◌ {A = ℕ} 0 1 = cc in absurd (omega arith)
from_least (suc n) i ledger s e = by_entry_lem (is_vacant (ledger i)) refl e (from_least n (i + 1) ledger s)
  where
    by_entry_lem : (b : Bool) → is_vacant (ledger i) ≡ b → pick b (Some i) (vacant_from n (i + 1) ledger) ≡ Some s
        → (vacant_from n (i + 1) ledger ≡ Some s → is_vacant (ledger s) ≡ true) → is_vacant (ledger s) ≡ true
    by_entry_lem true q h f = let p : s ≡ i = cc in rw (p, q)
    by_entry_lem false q h f = f h

-- an open parks where the ledger has nothing
open_vacant : (units : List ℕ) (ledger : Ledger) (k : Asked) (clock : ℕ) (reply : List ℕ)
    → is_a 1 (open_expected units ledger k clock reply).answer ≡ true
    → is_vacant (ledger (slot_in (open_expected units ledger k clock reply).answer)) ≡ true
unfolding open_expected least_vacant
open_vacant units ledger k clock reply =
    let P : Expected → Type 0 = λ x. is_a 1 x.answer ≡ true → is_vacant (ledger (slot_in x.answer)) ≡ true in
    pick_cases P (eqb (length reply) 512) _ _
    (λ a. pick_cases P (right_token (length k.token)) _ _
    (λ b. pick_cases P (parks units k clock) _ _ (λ p. by_slot (vacant_from 16 0 ledger) refl)
    (λ p e. let z : true ≡ false = sym e ∙ final_not_parked (whole units k [] clock).answer (whole_final units k [] clock) in let o : ◌≡◌ {A = ℕ} 0 1 = cc in absurd (omega arith)))
    (λ b e. let o : ◌≡◌ {A = ℕ} 0 1 = cc in absurd (omega arith)))
    (λ a e. let o : ◌≡◌ {A = ℕ} 0 1 = cc in absurd (omega arith))
  where
    by_slot : (f : Maybe ℕ) → vacant_from 16 0 ledger ≡ f → is_a 1 (parked_at f) ≡ true → is_vacant (ledger (slot_in (parked_at f))) ≡ true
    by_slot (Some s) q e = from_least 16 0 ledger s q
    by_slot None q e = let o : ◌≡◌ {A = ℕ} 0 1 = cc in absurd (omega arith)

put_other : (ledger : Ledger) (s i : ℕ) (x : Option Asked) (k : Asked) → ledger i ≡ some k → (b : Bool) → eqb i s ≡ b
    → (put ledger s x i ≡ some k) ⊎ (s ≡ i)
put_other ledger s i x k h true e = inr (sym (eqb-true i s e))
put_other ledger s i x k h false e = inl (rw e h)

stays : (a : Answer) (b : Bool) → is_final a ≡ b → (ledger new : Ledger) (i : ℕ) (k : Asked) (E : Type 0) → ledger i ≡ some k
    → (new i ≡ some k) ⊎ E
    → (pick b new ledger i ≡ some k) ⊎ (E × (is_final a ≡ true))
stays a true q ledger new i k E h (inl x) = inl x
stays a true q ledger new i k E h (inr e) = inr (e, q)
stays a false q ledger new i k E h x = inl h

module _ (t : Tables) (ledger : Ledger) (fit : Fits t ledger) (i : ℕ) (x : Asked) (here : ledger i ≡ some x) where
  not_over : (k : Asked) (a : Answer) → (is_a 1 a ≡ true → is_vacant (ledger (slot_in a)) ≡ true) → (b : Bool) → is_a 1 a ≡ b
      → pick b (put ledger (slot_in a) (some k)) ledger i ≡ some x
  not_over k a v false e = here
  not_over k a v true e = by_slot (eqb i (slot_in a)) refl
    where
      by_slot : (c : Bool) → eqb i (slot_in a) ≡ c → pick c (some k) (ledger i) ≡ some x
      by_slot false q = here
      by_slot true q =
          let s = eqb-true i (slot_in a) q in
          let z : is_vacant (some x) ≡ true = ap is_vacant (sym here) ∙ ap (λ (j : ℕ). is_vacant (ledger j)) s ∙ v e in
          let o : ◌≡◌ {A = ℕ} 0 1 = cc in
          absurd (omega arith)

  pub step_keeps : (k : Call) (a : Answer) (r : List ℕ) (n : Tables) → Meets t k a r n
      → (after ledger k a i ≡ some x) ⊎ (Ends k i × (is_final a ≡ true))
  step_keeps (opens k clock reply) a r n m =
      let e = (call_as t ledger fit (opens k clock reply) a r n m).answer in
      inl (not_over k a (subst (λ (y : Answer). is_a 1 y ≡ true → is_vacant (ledger (slot_in y)) ≡ true) (sym e) (open_vacant t.units ledger k clock reply)) (is_a 1 a) refl)
  step_keeps (closes s d clock reply) a r n m =
      stays a (is_final a) refl ledger (put ledger s none) i x (s ≡ i) here (put_other ledger s i none x here (eqb i s) refl)
  step_keeps (aborts s) a r n m =
      stays a (is_final a) refl ledger (put ledger s none) i x (s ≡ i) here (put_other ledger s i none x here (eqb i s) refl)
  step_keeps resets a r n m = stays a (is_final a) refl ledger (λ j. none) i x Unit here (inr tt)

-- ---- at any step of any run from sound tables

module _ (t : Tables) (es : List Event) (m : Tables) (sound : SoundTables t) (ran : Ran t es m) (k : Call) (a : Answer) (r : List ℕ)
    (n : Tables)
    (meets : Meets m k a r n) where
  pub each_step : As (expected m.units (ledger_of (starts t.slots) es) k) a r
  each_step = call_as m (ledger_of (starts t.slots) es) (run_fits t es m sound ran) k a r n meets

  -- an open or a close that is neither refused for its form nor answered finally is about a command that nothing refuses
  pub waiting_passes : (x : Asked) → is_command k ≡ true → command_of (ledger_of (starts t.slots) es) k ≡ some x → is_final a ≡ false
      → is_malformed a ≡ false
      → reason_at_open m.units x (clock_of k) ≡ 0
  waiting_passes x c e f h =
      let q = each_step.answer in
      waits m.units (ledger_of (starts t.slots) es) k x c e (ap is_final (sym q) ∙ f) (ap is_malformed (sym q) ∙ h)

  pub stays_parked : (i : ℕ) (x : Asked) → ledger_of (starts t.slots) es i ≡ some x
      → (after (ledger_of (starts t.slots) es) k a i ≡ some x) ⊎ (Ends k i × (is_final a ≡ true))
  stays_parked i x here = step_keeps m (ledger_of (starts t.slots) es) (run_fits t es m sound ran) i x here k a r n meets
