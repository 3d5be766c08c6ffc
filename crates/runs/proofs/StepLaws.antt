-- One call of a run: its answer, reply bytes and unit table are those of the whole command that it answers, if it answers one, and the slot
-- table goes on agreeing with the ledger.
use Rattle.std.specs.Prelude.{◌≡◌, Bool, ℕ, ◌≤◌, ◌<◌, eqb, length, take, drop}
use Rattle.std.proofs.Math.Path.{refl, ap, subst}
use Rattle.std.proofs.Common.{sym, ap₂, ◌∙◌, arith, length-drop, take_at, length-take-le, eqb-true, eq-eqb, le-leb}
use Rattle.std.proofs.Math.Bool.{true, false}
use Rattle.std.proofs.Math.Option.{Option, none, some}
use mathlib.Core.List.{List, [], ◌∷◌}
use Rattle.std.proofs.lemmas.Bool.{eqb-false}
use Rattle.choice.specs.Choice.{pick}
use Rattle.choice.specs.ChoiceLaws.{both_true, pick_cases}
use Rattle.wire.specs.Bytes.{patch}
use Rattle.seal.specs.Seal.{blank_record}
use Rattle.model.specs.Codes.{data_out, legal_len}
use Rattle.model.proofs.CodeLaws.{legal_small}
use Rattle.model.specs.Answers.{is_a, is_final, count_in}
use Rattle.model.proofs.AnswerLaws.{final_not_parked}
use Rattle.model.specs.declared.Answer.{Answer}
use Rattle.model.specs.declared.Answer.TheVariants.{Good, Parked, Full, H1, H2, H3}
use Rattle.slots.specs.Slot.{slot_at, slot_state_of, slot_token, right_token, token_length, open_record, lowest_free, parked, freed, all_freed}
use Rattle.slots.proofs.SlotLaws.{record_free, open_sound, token_is}
use Rattle.slots.proofs.SearchLaws.{lowest}
use Rattle.slots.proofs.RoundLaws.{open_unit, open_command, open_token, parked_open, parked_length, parked_here, parked_other}
use Rattle.slots.proofs.TableLaws.{freed_length, freed_here, freed_other, all_freed_length, all_freed_lem}
use Rattle.std.specs.Prelude.{Option as Maybe, Some, None}
use Rattle.slots.specs.declared.SlotState.TheVariants.{Open}
use Rattle.judge.specs.Command.{code_of}
use Rattle.judge.specs.Seen.{seen}
use Rattle.judge.proofs.JudgementLaws.{open_passed}
use Rattle.calls.specs.Outcome.{leaves, Tables, tables, Lent, lent, Outcome, gives, on_slots, rightly_lent}
use Rattle.calls.proofs.OutcomeLaws.{one_table, one_outcome}
use Rattle.calls.specs.Slots.{holds, abort_out, reset_out}
use Rattle.calls.specs.Whole.{Asked, asked, Whole, whole}
use Rattle.calls.specs.Open.{reason_at_open, parks, parked_in, answered, judged_out, open_out}
use Rattle.calls.specs.Close.{held_by, close_out}
use Rattle.calls.proofs.CloseLaws.{holds_open}
use Rattle.runs.proofs.WholeLaws.{open_whole, whole_final, whole_written, whole_length}
use Rattle.runs.specs.Run.{Call, opens, closes, aborts, resets, Meets}
use Rattle.runs.specs.Ledger.{Ledger, put, after, vacant, held, view, to_view, Agrees, done, done_in, Singly, final_in, KeepsReply, Fits}

-- ---- an open goes one of four ways, and a close one of three

module _ (l : Lent) (k : Asked) (clock : ℕ) (Q : Outcome → Type 0) where
  pub open_by :
      (rightly_lent l ≡ false → Q (gives H1 l))
      → (rightly_lent l ≡ true → right_token (length k.token) ≡ false → Q (gives H2 l))
      → (rightly_lent l ≡ true → right_token (length k.token) ≡ true → parks l.tabled.units k clock ≡ true
      → Q (on_slots l (parked_in l.tabled.slots k (lowest_free l.tabled.slots))))
      → (rightly_lent l ≡ true → right_token (length k.token) ≡ true → parks l.tabled.units k clock ≡ false
      → Q (answered l (whole l.tabled.units k [] clock)))
      → Q (open_out l k clock)
  unfolding open_out judged_out
  open_by h1 h2 parked' answered' =
      pick_cases Q (rightly_lent l) _ _
      (λ a. pick_cases Q (right_token (length k.token)) _ _
      (λ b. pick_cases Q (parks l.tabled.units k clock) _ _ (parked' a b)
      (λ p. subst (λ (w : Whole). Q (answered l w)) (sym (open_whole l.tabled.units k [] clock p)) (answered' a b p)))
      (h2 a))
      h1

module _ (l : Lent) (s : ℕ) (d : List ℕ) (clock : ℕ) (Q : Outcome → Type 0) where
  pub close_by : (rightly_lent l ≡ false → Q (gives H1 l)) → (rightly_lent l ≡ true → holds l.tabled.slots s ≡ false → Q (gives H3 l))
      → (rightly_lent l ≡ true → holds l.tabled.slots s ≡ true
      → Q (answered (lent (tables l.tabled.units (freed s l.tabled.slots)) l.reply) (whole l.tabled.units (held_by (slot_at s l.tabled.slots)) d clock)))
      → Q (close_out l s d clock)
  unfolding close_out
  close_by h1 h3 closed =
      pick_cases Q (rightly_lent l) _ _ (λ a. pick_cases Q (holds l.tabled.slots s) _ _ (closed a) (h3 a)) h1

-- ---- what slots hold

pub view_blank : view blank_record ≡ vacant
unfolding view
view_blank = rw record_free

pub view_open : (rec : List ℕ) → slot_state_of rec ≡ Open → view rec ≡ held (held_by rec)
unfolding view
view_open rec e = rw e

-- a parked record gives back what was put in
pub held_parked : (u : ℕ) (c token : List ℕ) → u ≤ 7 → length token ≤ 64 → legal_len (code_of c) (length c) ≡ true
    → held_by (open_record u c token) ≡ asked u c token
held_parked u c token hu h64 hl =
    let n = legal_small (code_of c) (length c) hl in
    ap₂ (λ (v : ℕ) (x : List ℕ). asked v x (slot_token (open_record u c token))) (open_unit u c token (omega arith) h64 (omega arith)) (open_command u c token (omega arith) h64)
    ∙ ap (λ (x : List ℕ). asked u c x) (open_token u c token (omega arith) h64)

view_parked : (u : ℕ) (c token : List ℕ) → u ≤ 7 → 16 ≤ length token → length token ≤ 64 → data_out (code_of c) ≡ true
    → legal_len (code_of c) (length c) ≡ true → view (open_record u c token) ≡ held (asked u c token)
view_parked u c token hu h16 h64 hd hl =
    view_open (open_record u c token) (parked_open u c token hu h16 h64 hd hl) ∙ ap held (held_parked u c token hu h64 hl)

agrees_put : (slots new : List ℕ) (ledger : Ledger) (s : ℕ) (x : Option Asked) → view (slot_at s new) ≡ to_view x
    → ((j : ℕ) → (s ≡ j → ⊥) → slot_at j new ≡ slot_at j slots) → Agrees slots ledger → Agrees new (put ledger s x)
agrees_put slots new ledger s x here other agrees i h = by_cases (eqb i s) refl
  where
    by_cases : (b : Bool) → eqb i s ≡ b → view (slot_at i new) ≡ to_view (pick b x (ledger i))
    by_cases true e = ap (λ (j : ℕ). view (slot_at j new)) (eqb-true i s e) ∙ here
    by_cases false e = ap view (other i (λ q. eqb-false i s e (sym q))) ∙ agrees i h

-- the ledger has what an open slot holds
held_some : (o : Option Asked) (k : Asked) → held k ≡ to_view o → o ≡ some k
held_some none k e = let z : ◌≡◌ {A = ℕ} 0 1 = cc in absurd (omega arith)
held_some (some x) k e = cc

pub ledger_holds : (slots : List ℕ) (ledger : Ledger) → Agrees slots ledger → (s : ℕ) → holds slots s ≡ true
    → ledger s ≡ some (held_by (slot_at s slots))
ledger_holds slots ledger agrees s h =
    let p = holds_open slots s h in
    held_some (ledger s) (held_by (slot_at s slots)) (sym (view_open (slot_at s slots) p.1) ∙ agrees s p.0)

-- ---- the token of a command that a slot holds has 16 to 64 bytes

pub held_token : (rec : List ℕ) → length rec ≡ 512 → slot_state_of rec ≡ Open → right_token (length (slot_token rec)) ≡ true
unfolding slot_token right_token
held_token rec full e =
    let s = open_sound rec e in
    let long : length (take (token_length rec) (drop 108 rec)) ≡ token_length rec = length-take-le (token_length rec) (drop 108 rec) (rw length-drop (omega (arith, s.most))) in
    rw (long, le-leb 16 (token_length rec) s.least, le-leb (token_length rec) 64 s.most)

-- ---- what one call does

-- the tables that it leaves, the whole command that it answers, if any, and its reply
pub record Stepped (t : Tables) (ledger : Ledger) (k : Call) (a : Answer) (r : List ℕ) (n : Tables) : Type 0 where
  pub fits : Fits n (after ledger k a)
  pub singly : Singly t.units (done_in ledger k a r) n.units
  pub counted : length (done_in ledger k a r) ≡ final_in k a
  pub reply_kept : KeepsReply k a r

-- an outcome that is known tells the answer, the tables and the reply
told : (t : Tables) (ledger : Ledger) (k : Call) (a b : Answer) (r s : List ℕ) (n m : Tables) → gives a (lent n r) ≡ gives b (lent m s)
    → Stepped t ledger k b s m → Stepped t ledger k a r n
told t ledger k a b r s n m e h =
    let p = one_outcome a b (lent n r) (lent m s) (gives b (lent m s)) e refl in
    let et : m ≡ n = ap (λ (x : Lent). x.tabled) (sym p.1) in
    let er : s ≡ r = ap (λ (x : Lent). x.reply) (sym p.1) in
    subst (λ (x : Answer). Stepped t ledger k x r n) (sym p.0) (subst (λ (x : List ℕ). Stepped t ledger k b x n) er (subst (λ (x : Tables). Stepped t ledger k b s x) et h))

front_written : (l ys : List ℕ) (n : ℕ) → length ys ≡ n → take n (patch l 0 ys) ≡ ys
unfolding patch
front_written l ys n e = take_at ys _ n e

front_kept : (w : Whole) (reply : List ℕ) → length w.written ≡ count_in w.answer
    → patch reply 0 w.written ≡ patch reply 0 (take (count_in w.answer) (patch reply 0 w.written))
front_kept w reply e = ap (patch reply 0) (sym (front_written reply w.written _ e))

none_written : (reply : List ℕ) (n : ℕ) → n ≡ 0 → reply ≡ patch reply 0 (take n reply)
unfolding patch
none_written reply n e = rw e

-- the whole command, and what its step shows of it
whole_singly : (us : List ℕ) (k : Asked) (d : List ℕ) (clock : ℕ) (reply : List ℕ)
    → Singly us (done k d clock (whole us k d clock).answer (take (count_in (whole us k d clock).answer) (patch reply 0 (whole us k d clock).written)) ∷ []) (whole us k d clock).units
whole_singly us k d clock reply = (refl, sym (front_written reply (whole us k d clock).written _ (whole_written us k d clock)), refl)

module _ (t : Tables) (ledger : Ledger) (fit : Fits t ledger) where
  -- ---- an open

  module _ (k : Asked) (clock : ℕ) (reply : List ℕ) where
    answered_step : Stepped t ledger (opens k clock reply) (whole t.units k [] clock).answer (patch reply 0 (whole t.units k [] clock).written)
        (tables (whole t.units k [] clock).units t.slots)
    answered_step =
        let f = whole_final t.units k [] clock in
        record {
          fits =
              rw (final_not_parked (whole t.units k [] clock).answer f) (record { units_length = whole_length t.units k [] clock fit.units_length; slots_length = fit.slots_length; agrees = fit.agrees });
          singly = rw f (whole_singly t.units k [] clock reply);
          counted = rw f;
          reply_kept = front_kept (whole t.units k [] clock) reply (whole_written t.units k [] clock);
        }

    -- an answer that is none to a command
    quiet : (a : Answer) → is_final a ≡ false → count_in a ≡ 0 → is_a 1 a ≡ false → Stepped t ledger (opens k clock reply) a reply t
    quiet a f z e = record { fits = rw e fit; singly = rw f; counted = rw f; reply_kept = none_written reply (count_in a) z }

    parked_step : right_token (length k.token) ≡ true → parks t.units k clock ≡ true → (s : ℕ) → lowest_free t.slots ≡ Some s
        → Stepped t ledger (opens k clock reply) (Parked (record { 0 = s })) reply (tables t.units (parked s k.unit k.command k.token t.slots))
    parked_step sized p s f =
        let q = both_true (eqb (reason_at_open t.units k clock) 0) (data_out (code_of k.command)) p in
        let o = open_passed (seen t.units k.unit) k.command k.token clock (eqb-true _ 0 q.0) in
        let n = legal_small (code_of k.command) (length k.command) o.legal in
        let w = token_is (length k.token) sized in
        let small = o.small in
        let h = (lowest t.slots s f).0 in
        let fits-100 : length k.command ≤ 100 = omega arith in
        record {
          fits =
              record {
                units_length = fit.units_length;
                slots_length = parked_length s k.unit k.command k.token t.slots fits-100 w.1 fit.slots_length h;
                agrees =
                    agrees_put t.slots _ ledger s (some k)
                    (ap view (parked_here s k.unit k.command k.token t.slots fits-100 w.1 fit.slots_length h)
                    ∙ view_parked k.unit k.command k.token (omega arith) w.0 w.1 q.1 o.legal)
                    (parked_other s k.unit k.command k.token t.slots fits-100 w.1 fit.slots_length h) fit.agrees;
              };
          singly = refl;
          counted = refl;
          reply_kept = none_written reply 0 refl;
        }

    by_slot : (a : Answer) (r : List ℕ) (n : Tables) → right_token (length k.token) ≡ true → parks t.units k clock ≡ true
        → (f : Maybe ℕ) → lowest_free t.slots ≡ f
        → gives a (lent n r) ≡ on_slots (lent t reply) (parked_in t.slots k f) → Stepped t ledger (opens k clock reply) a r n
    by_slot a r n sized p (Some s) f e = told t ledger (opens k clock reply) a (Parked (record { 0 = s })) r reply n _ e (parked_step sized p s f)
    by_slot a r n sized p None f e = told t ledger (opens k clock reply) a Full r reply n t e (quiet Full refl refl refl)

    pub open_step : (a : Answer) (r : List ℕ) (n : Tables) → gives a (lent n r) ≡ open_out (lent t reply) k clock
        → Stepped t ledger (opens k clock reply) a r n
    open_step a r n =
        open_by (lent t reply) k clock (λ (o : Outcome). gives a (lent n r) ≡ o → Stepped t ledger (opens k clock reply) a r n)
        (λ h e. told t ledger (opens k clock reply) a H1 r reply n t e (quiet H1 refl refl refl))
        (λ h g e. told t ledger (opens k clock reply) a H2 r reply n t e (quiet H2 refl refl refl))
        (λ h g p e. by_slot a r n g p (lowest_free t.slots) refl e)
        (λ h g p e. told t ledger (opens k clock reply) a _ r _ n _ e answered_step)

  -- ---- a slot that is freed

  freed_fits : (s : ℕ) → s < 16 → (us : List ℕ) → length us ≡ 4096 → Fits (tables us (freed s t.slots)) (put ledger s none)
  freed_fits s h us full =
      record {
        units_length = full;
        slots_length = freed_length s t.slots fit.slots_length h;
        agrees =
            agrees_put t.slots (freed s t.slots) ledger s none (ap view (freed_here s t.slots fit.slots_length h) ∙ view_blank)
            (freed_other s t.slots fit.slots_length h) fit.agrees;
      }

  -- ---- a close

  module _ (s : ℕ) (d : List ℕ) (clock : ℕ) (reply : List ℕ) where
    kept : (a : Answer) → is_final a ≡ false → count_in a ≡ 0 → Stepped t ledger (closes s d clock reply) a reply t
    kept a f z = record { fits = rw f fit; singly = rw f; counted = rw f; reply_kept = none_written reply (count_in a) z }

    abbrev w : Whole
    w = whole t.units (held_by (slot_at s t.slots)) d clock

    closed : holds t.slots s ≡ true
        → Stepped t ledger (closes s d clock reply) w.answer (patch reply 0 w.written) (tables w.units (freed s t.slots))
    closed h =
        let k = held_by (slot_at s t.slots) in
        let here = ledger_holds t.slots ledger fit.agrees s h in
        let f = whole_final t.units k d clock in
        record {
          fits = rw f (freed_fits s (holds_open t.slots s h).0 _ (whole_length t.units k d clock fit.units_length));
          singly = rw (f, here) (whole_singly t.units k d clock reply);
          counted = rw (f, here);
          reply_kept = front_kept w reply (whole_written t.units k d clock);
        }

    pub close_step : (a : Answer) (r : List ℕ) (n : Tables) → gives a (lent n r) ≡ close_out (lent t reply) s d clock
        → Stepped t ledger (closes s d clock reply) a r n
    close_step a r n =
        close_by (lent t reply) s d clock (λ (o : Outcome). gives a (lent n r) ≡ o → Stepped t ledger (closes s d clock reply) a r n)
        (λ h e. told t ledger (closes s d clock reply) a H1 r reply n t e (kept H1 refl refl))
        (λ h g e. told t ledger (closes s d clock reply) a H3 r reply n t e (kept H3 refl refl))
        (λ h g e. told t ledger (closes s d clock reply) a _ r _ n _ e (closed g))

  -- ---- an abort and a reset

  told_slots : (k : Call) (a : Answer) (r : List ℕ) (n : Tables) (b : Answer) (ss : List ℕ) → leaves a n.slots ≡ leaves b ss
      → n.units ≡ t.units
      → Stepped t ledger k b r (tables t.units ss) → Stepped t ledger k a r n
  told_slots k a r n b ss e eu h =
      let p = one_table a b n.slots ss (leaves b ss) e refl in
      let et : tables t.units ss ≡ n = ap₂ tables (sym eu) (sym p.1) in
      subst (λ (x : Answer). Stepped t ledger k x r n) (sym p.0) (subst (λ (x : Tables). Stepped t ledger k b r x) et h)

  pub abort_step : (s : ℕ) (a : Answer) (r : List ℕ) (n : Tables) → leaves a n.slots ≡ abort_out t.slots s → n.units ≡ t.units
      → r ≡ []
      → Stepped t ledger (aborts s) a r n
  unfolding abort_out
  abort_step s a r n e eu er = by_cases (holds t.slots s) refl (rw (eq-eqb _ _ fit.slots_length) at e)
    where
      by_cases : (b : Bool) → holds t.slots s ≡ b
          → leaves a n.slots ≡ pick b (leaves (Good 0) (freed s t.slots)) (leaves H3 t.slots) → Stepped t ledger (aborts s) a r n
      by_cases true q h =
          told_slots (aborts s) a r n (Good 0) (freed s t.slots) h eu
          (record { fits = freed_fits s (holds_open t.slots s q).0 t.units fit.units_length; singly = refl; counted = refl; reply_kept = er })
      by_cases false q h =
          told_slots (aborts s) a r n H3 t.slots h eu (record { fits = fit; singly = refl; counted = refl; reply_kept = er })

  pub reset_step : (a : Answer) (r : List ℕ) (n : Tables) → leaves a n.slots ≡ reset_out t.slots → n.units ≡ t.units → r ≡ []
      → Stepped t ledger resets a r n
  unfolding reset_out
  reset_step a r n e eu er =
      told_slots resets a r n (Good 0) (all_freed t.slots) (rw (eq-eqb _ _ fit.slots_length) at e) eu
      (record {
        fits =
            record {
              units_length = fit.units_length;
              slots_length = all_freed_length t.slots fit.slots_length;
              agrees = λ i h. ap view (all_freed_lem t.slots fit.slots_length i h) ∙ view_blank;
            };
        singly = refl;
        counted = refl;
        reply_kept = er;
      })

  -- ---- any call

  pub call_step : (k : Call) (a : Answer) (r : List ℕ) (n : Tables) → Meets t k a r n → Stepped t ledger k a r n
  call_step (opens k clock reply) a r n e = open_step k clock reply a r n e
  call_step (closes s d clock reply) a r n e = close_step s d clock reply a r n e
  call_step (aborts s) a r n e = abort_step s a r n e.0 e.1 e.2
  call_step resets a r n e = reset_step a r n e.0 e.1 e.2
