-- Every list of calls has exactly one run from any tables: so nothing here holds of empty runs only. And a call that is lent a buffer of a
-- wrong length answers H1 and leaves every byte.
use Rattle.std.specs.Prelude.{◌≡◌, refl, false, List, [], ◌∷◌, map, ℕ, eqb, length}
use Rattle.std.proofs.Common.{sym, ap, ap₂, ◌∙◌, subst}
use Rattle.choice.specs.ChoiceLaws.{pick_holds}
use Rattle.model.specs.declared.Answer.{Answer}
use Rattle.model.specs.declared.Answer.TheVariants.{Good, Parked, Full, H1, H2, H3}
use Rattle.slots.specs.Slot.{slot_at, lowest_free}
use Rattle.std.specs.Prelude.{Option, Some, None}
use Rattle.calls.specs.Outcome.{TableOutcome, leaves, Tables, tables, Lent, lent, Outcome, gives, on_slots, rightly_lent}
use Rattle.calls.proofs.OutcomeLaws.{one_table, one_outcome}
use Rattle.calls.specs.Build.{build_out}
use Rattle.calls.proofs.BuildLaws.{build_length}
use Rattle.calls.specs.Slots.{holds, abort_out, reset_out}
use Rattle.calls.proofs.SlotsLaws.{abort_length, reset_length}
use Rattle.calls.specs.Whole.{Asked, whole}
use Rattle.calls.specs.Open.{parked_in, open_out}
use Rattle.calls.proofs.OpenLaws.{open_h1}
use Rattle.calls.specs.Close.{held_by, close_out}
use Rattle.calls.proofs.CloseLaws.{close_h1}
use Rattle.runs.specs.Run.{Call, opens, closes, aborts, resets, Event, event, Meets, Ran}
use Rattle.runs.proofs.StepLaws.{open_by, close_by}

abbrev pub calls_of : List Event → List Call
calls_of es = map (λ (e : Event). e.call) es

-- ---- a call has an answer

pub record HasAnswer (t : Tables) (k : Call) : Type 0 where
  pub answer : Answer
  pub reply : List ℕ
  pub next : Tables
  pub meets : Meets t k answer reply next

-- an outcome is that of some answer
abbrev Given : Outcome → Type 0
Given o = (a : Answer) × (m : Lent) × (gives a m ≡ o)

abbrev Left : TableOutcome → Type 0
Left o = (a : Answer) × (t : List ℕ) × (leaves a t ≡ o)

open_answers : (l : Lent) (k : Asked) (clock : ℕ) → Given (open_out l k clock)
open_answers l k clock =
    open_by l k clock Given (λ h. (H1, l, refl)) (λ h g. (H2, l, refl)) (λ h g p. by_slot (lowest_free l.tabled.slots))
    (λ h g p. ((whole l.tabled.units k [] clock).answer, _, refl))
  where
    by_slot : (f : Option ℕ) → Given (on_slots l (parked_in l.tabled.slots k f))
    by_slot (Some s) = (Parked (record { 0 = s }), _, refl)
    by_slot None = (Full, l, refl)

close_answers : (l : Lent) (s : ℕ) (d : List ℕ) (clock : ℕ) → Given (close_out l s d clock)
close_answers l s d clock =
    close_by l s d clock Given (λ h. (H1, l, refl)) (λ h g. (H3, l, refl))
    (λ h g. ((whole l.tabled.units (held_by (slot_at s l.tabled.slots)) d clock).answer, _, refl))

abort_answers : (slots : List ℕ) (s : ℕ) → Left (abort_out slots s)
unfolding abort_out
abort_answers slots s =
    pick_holds Left (eqb (length slots) 8192) _ _
    (pick_holds Left (holds slots s) _ _ (Good 0, _, refl) (H3, slots, refl))
    (H1, slots, refl)

reset_answers : (slots : List ℕ) → Left (reset_out slots)
unfolding reset_out
reset_answers slots = pick_holds Left (eqb (length slots) 8192) _ _ (Good 0, _, refl) (H1, slots, refl)

on_all : (t : Tables) (k : Call) (a : Answer) (m : Lent) → Meets t k a m.reply m.tabled → HasAnswer t k
on_all t k a m e = record { answer = a; reply = m.reply; next = m.tabled; meets = e }

pub has_answer : (t : Tables) (k : Call) → HasAnswer t k
has_answer t (opens k clock reply) =
    let w = open_answers (lent t reply) k clock in
    on_all t (opens k clock reply) w.0 w.1 w.2
has_answer t (closes s d clock reply) =
    let w = close_answers (lent t reply) s d clock in
    on_all t (closes s d clock reply) w.0 w.1 w.2
has_answer t (aborts s) =
    let w = abort_answers t.slots s in
    on_all t (aborts s) w.0 (lent (tables t.units w.1) []) (w.2, refl, refl)
has_answer t resets =
    let w = reset_answers t.slots in
    on_all t resets w.0 (lent (tables t.units w.1) []) (w.2, refl, refl)

-- ---- and no second one

pub record Same (a b : Answer) (r s : List ℕ) (n m : Tables) : Type 0 where
  pub answers : a ≡ b
  pub replies : r ≡ s
  pub left : n ≡ m

lent_same : (a b : Answer) (r s : List ℕ) (n m : Tables) (o : Outcome) → gives a (lent n r) ≡ o → gives b (lent m s) ≡ o → Same a b r s n m
lent_same a b r s n m o p q =
    let w = one_outcome a b (lent n r) (lent m s) o p q in
    record { answers = w.0; replies = ap (λ (x : Lent). x.reply) w.1; left = ap (λ (x : Lent). x.tabled) w.1 }

slots_same : (t : Tables) (a b : Answer) (r s : List ℕ) (n m : Tables) (o : TableOutcome)
    → (leaves a n.slots ≡ o) × (n.units ≡ t.units) × (r ≡ [])
    → (leaves b m.slots ≡ o) × (m.units ≡ t.units) × (s ≡ []) → Same a b r s n m
slots_same t a b r s n m o p q =
    let w = one_table a b n.slots m.slots o p.0 q.0 in
    record { answers = w.0; replies = p.2 ∙ sym q.2; left = ap₂ tables (p.1 ∙ sym q.1) w.1 }

pub one_meets : (t : Tables) (k : Call) (a b : Answer) (r s : List ℕ) (n m : Tables) → Meets t k a r n → Meets t k b s m → Same a b r s n m
one_meets t (opens k clock reply) a b r s n m p q = lent_same a b r s n m _ p q
one_meets t (closes i d clock reply) a b r s n m p q = lent_same a b r s n m _ p q
one_meets t (aborts i) a b r s n m p q = slots_same t a b r s n m _ p q
one_meets t resets a b r s n m p q = slots_same t a b r s n m _ p q

-- ---- the run of a list of calls

pub run_exists : (ks : List Call) (t : Tables) → (es : List Event) × (n : Tables) × (calls_of es ≡ ks) × Ran t es n
run_exists [] t = ([], t, refl, refl)
run_exists (k ∷ ks) t =
    let w = has_answer t k in
    let r = run_exists ks w.next in
    (event k w.answer w.reply ∷ r.0, r.1, ap (λ (xs : List Call). k ∷ xs) r.2, (w.next, w.meets, r.3))

same_head : (k j : Call) (ks js : List Call) → k ∷ ks ≡ j ∷ js → (k ≡ j) × (ks ≡ js)
same_head k j ks js e = (cc, cc)

pub run_unique : (es fs : List Event) (t n m : Tables) → calls_of es ≡ calls_of fs → Ran t es n → Ran t fs m → (es ≡ fs) × (n ≡ m)
run_unique [] [] t n m e p q = (refl, sym p ∙ q)
run_unique [] (f ∷ fs) t n m e p q = (cc, cc)
run_unique (x ∷ es) [] t n m e p q = (cc, cc)
run_unique (x ∷ es) (y ∷ fs) t n m e (t₁, mx, p) (t₂, my, q) =
    let h = same_head x.call y.call (calls_of es) (calls_of fs) e in
    let my' : Meets t x.call y.answer y.reply t₂ = subst (λ (k : Call). Meets t k y.answer y.reply t₂) (sym h.0) my in
    let s = one_meets t x.call x.answer y.answer x.reply y.reply t₁ t₂ mx my' in
    let r = run_unique es fs t₁ n m h.1 p (subst (λ (z : Tables). Ran z fs m) (sym s.left) q) in
    let ev : x ≡ y = λ i. record { call = h.0 i; answer = s.answers i; reply = s.replies i } in
    (ap₂ (λ (z : Event) (zs : List Event). z ∷ zs) ev r.0, r.1)

-- ---- a call that is lent a buffer of a wrong length

pub record WronglyLent : Type 0 where
  pub opened : (l : Lent) (k : Asked) (clock : ℕ) → rightly_lent l ≡ false → open_out l k clock ≡ gives H1 l
  pub closed : (l : Lent) (s : ℕ) (d : List ℕ) (clock : ℕ) → rightly_lent l ≡ false → close_out l s d clock ≡ gives H1 l
  pub aborted : (slots : List ℕ) (s : ℕ) → (length slots ≡ 8192 → ⊥) → abort_out slots s ≡ leaves H1 slots
  pub reset : (slots : List ℕ) → (length slots ≡ 8192 → ⊥) → reset_out slots ≡ leaves H1 slots
  pub built : (units : List ℕ) (u m t : ℕ) (id auth gen : List ℕ) (k : ℕ) → (length units ≡ 4096 → ⊥)
      → build_out units u m t id auth gen k ≡ leaves H1 units

pub wrongly_lent : WronglyLent
wrongly_lent =
    record {
      opened = λ l k clock f. sym (open_h1 l k clock (rightly_lent l) refl f);
      closed = λ l s d clock f. sym (close_h1 l s d clock (rightly_lent l) refl f);
      aborted = λ slots s n. sym (abort_length slots s n);
      reset = λ slots n. sym (reset_length slots n);
      built = λ units u m t id auth gen k n. sym (build_length units u m t id auth gen k n);
    }
