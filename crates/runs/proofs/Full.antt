-- Demand 3: "task set full" exactly when a data-out command passes and no free slot is left, by the ledger; and no call but an open gives
-- it.
use Rattle.std.proofs.Math.Path.{◌≡◌, sym}
use Rattle.std.specs.Prelude.{refl, Bool, ℕ, zero, suc, ◌+◌, ◌≤◌, ◌<◌, eqb, length}
use Rattle.std.proofs.Common.{ap, ◌∙◌, arith, eq-or-lt_of_le, ⊎_elim}
use Rattle.std.proofs.Math.Bool.{true, false}
use Rattle.std.proofs.Math.Option.{Option, none, some}
use mathlib.Core.List.{List, []}
use borrow.Author.Tests.{eqb-true, eq-eqb}
use Rattle.choice.specs.Choice.{pick}
use Rattle.choice.specs.ChoiceLaws.{pick_cases, both_true}
use Rattle.model.specs.Codes.{data_out}
use Rattle.model.specs.Answers.{is_a}
use Rattle.model.proofs.AnswerLaws.{final_not_full}
use Rattle.model.specs.declared.Answer.{Answer}
use Rattle.model.specs.declared.Answer.TheVariants.{Full}
use Rattle.slots.specs.Slot.{right_token}
use Rattle.std.specs.Prelude.{Option as Maybe, Some, None}
use Rattle.judge.specs.Command.{code_of}
use Rattle.calls.specs.Outcome.{Tables}
use Rattle.calls.specs.Whole.{Asked, whole}
use Rattle.calls.specs.Open.{reason_at_open, parks}
use Rattle.runs.proofs.WholeLaws.{whole_final}
use Rattle.runs.specs.Run.{Call, opens, closes, aborts, resets, Event, Meets, Ran, SoundTables, is_opens}
use Rattle.runs.specs.Ledger.{Ledger, ledger_of, starts}
use Rattle.runs.specs.Expected.{Expected, is_vacant, vacant_from, least_vacant, entry_at, parked_at, closed_as, close_expected, aborted_as, open_expected, expected, Passes, NoneFree}
use Rattle.runs.proofs.EachStep.{each_step}

-- ---- no slot is vacant exactly where the search finds none

none_vacant : (n i : ℕ) (ledger : Ledger) → ((j : ℕ) → i ≤ j → j < i + n → (k : Asked) × (ledger j ≡ some k))
    → vacant_from n i ledger ≡ None
unfolding vacant_from
none_vacant zero i ledger h = refl
none_vacant (suc n) i ledger h =
    let x = h i (omega arith) (omega arith) in
    rw x.1 (none_vacant n (i + 1) ledger (λ j a b. h j (omega arith) (omega arith)))

held_entry : (o : Option Asked) → is_vacant o ≡ false → (k : Asked) × (o ≡ some k)
held_entry none e = let z : ◌≡◌ {A = ℕ} 0 1 = cc in absurd (omega arith)
held_entry (some k) e = (k, refl)

not_vacant : (b : Bool) (s : ℕ) (f : Maybe ℕ) → pick b (Some s) f ≡ None → (b ≡ false) × (f ≡ None)
not_vacant true s f e = let z : ◌≡◌ {A = ℕ} 0 1 = cc in absurd (omega arith)
not_vacant false s f e = (refl, e)

all_held : (n i : ℕ) (ledger : Ledger) → vacant_from n i ledger ≡ None → (j : ℕ) → i ≤ j → j < i + n → (k : Asked) × (ledger j ≡ some k)
unfolding vacant_from
all_held zero i ledger e j a b = absurd (omega arith)
all_held (suc n) i ledger e j a b =
    let p = not_vacant (is_vacant (ledger i)) i (vacant_from n (i + 1) ledger) e in
    ⊎_elim (λ q. let x = held_entry (ledger i) p.0 in (x.0, ap ledger (sym q) ∙ x.1)) (λ g. all_held n (i + 1) ledger p.1 j (omega arith) (omega arith)) (eq-or-lt_of_le a)

-- ---- what the answer of an open tells

module _ (units : List ℕ) (ledger : Ledger) (k : Asked) (clock : ℕ) (reply : List ℕ) where
  full_none : (f : Maybe ℕ) → is_a 4 (parked_at f) ≡ true → f ≡ None
  full_none (Some s) e = let z : ◌≡◌ {A = ℕ} 0 1 = cc in absurd (omega arith)
  full_none None e = refl

  full_only : is_a 4 (open_expected units ledger k clock reply).answer ≡ true → Passes units k clock reply × NoneFree ledger
  unfolding open_expected least_vacant
  full_only =
      let P : Expected → Type 0 = λ x. is_a 4 x.answer ≡ true → Passes units k clock reply × NoneFree ledger in
      pick_cases P (eqb (length reply) 512) _ _
      (λ a. pick_cases P (right_token (length k.token)) _ _
      (λ b. pick_cases P (parks units k clock) _ _
      (λ p e. let q = both_true (eqb (reason_at_open units k clock) 0) (data_out (code_of k.command)) p in
      (record { reply_length = eqb-true (length reply) 512 a; token_length = b; none_refuses = eqb-true _ 0 q.0; data_out = q.1 }, λ i h. all_held 16 0 ledger (full_none (vacant_from 16 0 ledger) e) i (omega arith) (omega arith)))
      (λ p e. let z : true ≡ false = sym e ∙ final_not_full (whole units k [] clock).answer (whole_final units k [] clock) in let o : ◌≡◌ {A = ℕ} 0 1 = cc in absurd (omega arith)))
      (λ b e. let o : ◌≡◌ {A = ℕ} 0 1 = cc in absurd (omega arith)))
      (λ a e. let o : ◌≡◌ {A = ℕ} 0 1 = cc in absurd (omega arith))

  full_always : Passes units k clock reply → NoneFree ledger → (open_expected units ledger k clock reply).answer ≡ Full
  unfolding open_expected least_vacant
  full_always p taken =
      rw (eq-eqb (length reply) 512 p.reply_length, p.token_length, eq-eqb (reason_at_open units k clock) 0 p.none_refuses, p.data_out, none_vacant 16 0 ledger (λ j a b. taken j (omega arith)))

-- ---- no other call gives it

close_not_full : (units : List ℕ) (ledger : Ledger) (s : ℕ) (d : List ℕ) (clock : ℕ) (reply : List ℕ)
    → is_a 4 (close_expected units ledger s d clock reply).answer ≡ false
unfolding close_expected
close_not_full units ledger s d clock reply =
    pick_cases (λ (x : Expected). is_a 4 x.answer ≡ false) (eqb (length reply) 512) _ _ (λ a. by_entry_lem (entry_at ledger s)) (λ a. refl)
  where
    by_entry_lem : (o : Option Asked) → is_a 4 (closed_as units d clock reply o).answer ≡ false
    by_entry_lem none = refl
    by_entry_lem (some k) = final_not_full (whole units k d clock).answer (whole_final units k d clock)

abort_not_full : (o : Option Asked) → is_a 4 (aborted_as o) ≡ false
abort_not_full none = refl
abort_not_full (some k) = refl

only_opens : (units : List ℕ) (ledger : Ledger) (k : Call) → is_a 4 (expected units ledger k).answer ≡ true → is_opens k ≡ true
only_opens units ledger (opens k clock reply) e = refl
only_opens units ledger (closes s d clock reply) e = sym (close_not_full units ledger s d clock reply) ∙ e
only_opens units ledger (aborts s) e = sym (abort_not_full (entry_at ledger s)) ∙ e
only_opens units ledger resets e = e

-- ---- after any run from sound tables

module _ (t : Tables) (es : List Event) (m : Tables) (sound : SoundTables t) (ran : Ran t es m) where
  pub full_exactly : (k : Asked) (clock : ℕ) (reply : List ℕ) (a : Answer) (r : List ℕ) (n : Tables) → Meets m (opens k clock reply) a r n
      → (a ≡ Full → Passes m.units k clock reply × NoneFree (ledger_of (starts t.slots) es))
      × (Passes m.units k clock reply → NoneFree (ledger_of (starts t.slots) es) → a ≡ Full)
  full_exactly k clock reply a r n meets =
      let e = (each_step t es m sound ran (opens k clock reply) a r n meets).answer in (
        λ full. full_only m.units (ledger_of (starts t.slots) es) k clock reply (ap (is_a 4) (sym e ∙ full)),
        λ p taken. e ∙ full_always m.units (ledger_of (starts t.slots) es) k clock reply p taken,
      )

  pub full_opens : (k : Call) (a : Answer) (r : List ℕ) (n : Tables) → Meets m k a r n → a ≡ Full → is_opens k ≡ true
  full_opens k a r n meets full =
      only_opens m.units (ledger_of (starts t.slots) es) k (ap (is_a 4) (sym (each_step t es m sound ran k a r n meets).answer ∙ full))
