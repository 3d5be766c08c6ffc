-- What each answer leaves, as document 01's table has it ("What a call gets and gives"), and 02 for keys that are kept elsewhere (K4): of
-- each call, by the answer's number.
use Rattle.std.specs.Prelude.{◌≡◌, refl, true, false, List, [], ℕ, eqb, leb, length, drop}
use Rattle.std.proofs.Common.{sym, ap, ap₂, ◌∙◌, subst, arith, drop_at, eqb-true, ne_eqb}
use Rattle.choice.specs.Choice.{pick, both}
use Rattle.choice.specs.ChoiceLaws.{both_true, either_false, pick_cases}
use Rattle.wire.specs.Bytes.{patch}
use Rattle.wire.proofs.PatchLaws.{patch_none}
use Rattle.model.specs.Codes.{data_out}
use Rattle.model.proofs.CodeLaws.{legal_small}
use Rattle.model.specs.Paper.{No, A, H, paper_of}
use Rattle.model.specs.Answers.{is_number_a, is_a, is_good, is_final, count_in, slot_in}
use Rattle.model.specs.declared.Answer.{Answer}
use Rattle.model.specs.declared.Answer.TheVariants.{Parked, Full, H1, H2, H3, Good, H5}
use Rattle.units.specs.Unit.{unit_at, keeper_of}
use Rattle.slots.specs.Slot.{slot_at, slot_unit, right_token, lowest_free, freed}
use Rattle.slots.proofs.SlotLaws.{token_is}
use Rattle.slots.proofs.SearchLaws.{lowest}
use Rattle.slots.proofs.RoundLaws.{parked_other}
use Rattle.std.specs.Prelude.{Option, Some, None}
use Rattle.judge.specs.Command.{code_of}
use Rattle.judge.specs.Seen.{seen}
use Rattle.judge.proofs.JudgementLaws.{open_passed}
use Rattle.calls.specs.Outcome.{Lent, lent, tables, Outcome, gives, with_slots, on_slots, rightly_lent, TableOutcome, leaves}
use Rattle.calls.proofs.OutcomeLaws.{one_outcome, lengths_are, one_table}
use Rattle.calls.specs.Build.{right_keeper, build_out}
use Rattle.calls.specs.Slots.{holds, abort_out, reset_out}
use Rattle.calls.specs.Whole.{Asked, Whole, whole}
use Rattle.calls.specs.Open.{reason_at_open, parks, parked_in, open_out}
use Rattle.calls.specs.Close.{held_by, close_out}
use Rattle.calls.proofs.CloseLaws.{holds_open, held_silent}
use Rattle.runs.proofs.WholeLaws.{whole_cases, whole_final, whole_written, whole_others}
use Rattle.runs.proofs.StepLaws.{open_by, close_by}
use Rattle.runs.proofs.FinalLaws.{answered_code}

-- an open: the unit table is kept; every slot but that of A1 keeps its bytes, and under any other answer the slot table is the same; the
-- reply is kept but for its first count bytes, and only A0 has a count
pub record LeftByOpen (l m : Lent) (a : Answer) : Type 0 where
  pub units : m.tabled.units ≡ l.tabled.units
  pub others : (j : ℕ) → (is_a 1 a ≡ true → slot_in a ≡ j → ⊥) → slot_at j m.tabled.slots ≡ slot_at j l.tabled.slots
  pub slots : is_a 1 a ≡ false → m.tabled.slots ≡ l.tabled.slots
  pub reply : drop (count_in a) m.reply ≡ drop (count_in a) l.reply

-- a close of slot s: the reply is kept, and A0 says count 0; A0, A2 and A3 free the slot, and no other slot changes; the unit table is kept
-- but under A0, which may make the record of the slot's unit anew, or that of its keeper, and never both (Local: `stored_once`)
pub record LeftByClose (l m : Lent) (s : ℕ) (a : Answer) : Type 0 where
  pub reply : m.reply ≡ l.reply
  pub count : count_in a ≡ 0
  pub slots : m.tabled.slots ≡ pick (is_final a) (freed s l.tabled.slots) l.tabled.slots
  pub units : is_a 0 a ≡ false → m.tabled.units ≡ l.tabled.units
  pub others : (v : ℕ) → (slot_unit (slot_at s l.tabled.slots) ≡ v → ⊥)
      → (keeper_of l.tabled.units (slot_unit (slot_at s l.tabled.slots)) ≡ v → ⊥)
      → unit_at v m.tabled.units ≡ unit_at v l.tabled.units

-- an outcome that is known tells the answer and what is left
told : (P : Lent → Answer → Type 0) (m n : Lent) (a b : Answer) → gives a m ≡ gives b n → P n b → P m a
told P m n a b e h =
    let p = one_outcome a b m n (gives b n) e refl in
    subst (λ (x : Answer). P m x) (sym p.0) (subst (λ (x : Lent). P x b) (sym p.1) h)

-- ---- an open

-- bytes that are written at the front leave those behind them
behind_front : (l ys : List ℕ) (n : ℕ) → length ys ≡ n → drop n (patch l 0 ys) ≡ drop n l
unfolding patch
behind_front l ys n e = drop_at ys (drop (length ys) l) n e ∙ ap (λ (k : ℕ). drop k l) e

-- a command that is answered at once leaves the unit table: B5h carries data out
unparked_units : (units : List ℕ) (k : Asked) (clock : ℕ) → parks units k clock ≡ false → (whole units k [] clock).units ≡ units
unparked_units units k clock p =
    whole_cases units k [] clock (λ (w : Whole). w.units ≡ units) (λ n. refl) (λ z t. absurd (answered_code units k clock p z t))
    (λ z f r. refl) (λ z f r. refl)

module _ (l : Lent) (k : Asked) (clock : ℕ) where
  all_kept : (a : Answer) → LeftByOpen l l a
  all_kept a = record { units = refl; others = λ j n. refl; slots = λ f. refl; reply = refl }

  by_slot : rightly_lent l ≡ true → right_token (length k.token) ≡ true → parks l.tabled.units k clock ≡ true
      → (f : Option ℕ) → lowest_free l.tabled.slots ≡ f → (a : Answer) (m : Lent) → gives a m ≡ on_slots l (parked_in l.tabled.slots k f)
      → LeftByOpen l m a
  by_slot h g p None f a m e = told (LeftByOpen l) m l a Full e (all_kept Full)
  by_slot h g p (Some s) f a m e =
      let q = both_true (eqb (reason_at_open l.tabled.units k clock) 0) (data_out (code_of k.command)) p in
      let o = open_passed (seen l.tabled.units k.unit) k.command k.token clock (eqb-true _ 0 q.0) in
      let n = legal_small (code_of k.command) (length k.command) o.legal in
      let other =
      parked_other s k.unit k.command k.token l.tabled.slots (omega arith) (token_is _ g).1 (lengths_are _ _ _ h).1
      (lowest l.tabled.slots s f).0 in
      told (LeftByOpen l) m _ a (Parked (record { 0 = s })) e
      (record {
        units = refl;
        others = λ j ne. other j (ne refl);
        slots = λ z. let o : ◌≡◌ {A = ℕ} 0 1 = cc in absurd (omega arith);
        reply = refl;
      })

  pub open_leaves : (a : Answer) (m : Lent) → gives a m ≡ open_out l k clock → LeftByOpen l m a
  open_leaves a m =
      open_by l k clock (λ (o : Outcome). gives a m ≡ o → LeftByOpen l m a)
      (λ h e. told (LeftByOpen l) m l a H1 e (all_kept H1))
      (λ h g e. told (LeftByOpen l) m l a H2 e (all_kept H2))
      (λ h g p e. by_slot h g p (lowest_free l.tabled.slots) refl a m e)
      (λ h g p e. let w = whole l.tabled.units k [] clock in
      told (LeftByOpen l) m _ a w.answer e
      (record {
        units = unparked_units l.tabled.units k clock p;
        others = λ j n. refl;
        slots = λ f. refl;
        reply = behind_front l.reply w.written (count_in w.answer) (whole_written l.tabled.units k [] clock);
      }))

-- A2, A3, A4, H1 and H2 to an open leave every byte
pub open_keeps : (l m : Lent) (a : Answer) → LeftByOpen l m a → is_a 0 a ≡ false → is_a 1 a ≡ false → m ≡ l
open_keeps l m a left not-0 not-1 =
    let r : m.reply ≡ l.reply = rw not-0 at left.reply in
    ap₂ lent (ap₂ tables left.units (left.slots not-1)) r

-- an answer has one number
one_number : (no : No) (n m : ℕ) → (n ≡ m → ⊥) → is_number_a n no ≡ true → is_number_a m no ≡ false
one_number (A x) n m ne e = let q = eqb-true x n e in ne_eqb x m (λ z. ne (omega arith))
one_number (H x) n m ne e = refl

pub refusal_keeps : (l m : Lent) (a : Answer) → LeftByOpen l m a → is_a 3 a ≡ true → m ≡ l
refusal_keeps l m a left e =
    open_keeps l m a left (one_number (paper_of a).no 3 0 (λ z. omega arith) e) (one_number (paper_of a).no 3 1 (λ z. omega arith) e)

-- ---- a close

good_units : (units : List ℕ) (k : Asked) (d : List ℕ) (clock : ℕ) → is_a 0 (whole units k d clock).answer ≡ false
    → (whole units k d clock).units ≡ units
good_units units k d clock =
    whole_cases units k d clock (λ (w : Whole). is_a 0 w.answer ≡ false → w.units ≡ units) (λ n e. refl)
    (λ z t e. let o : ◌≡◌ {A = ℕ} 0 1 = cc in absurd (omega arith)) (λ z f r e. refl) (λ z f r e. refl)

module _ (l : Lent) (s : ℕ) (d : List ℕ) (clock : ℕ) where
  close_kept : (a : Answer) → is_final a ≡ false → count_in a ≡ 0 → LeftByClose l l s a
  close_kept a f z = record { reply = refl; count = z; slots = rw f; units = λ e. refl; others = λ v n m. refl }

  abbrev k : Asked
  k = held_by (slot_at s l.tabled.slots)

  abbrev w : Whole
  w = whole l.tabled.units k d clock

  pub close_leaves : (a : Answer) (m : Lent) → gives a m ≡ close_out l s d clock → LeftByClose l m s a
  close_leaves a m =
      close_by l s d clock (λ (o : Outcome). gives a m ≡ o → LeftByClose l m s a)
      (λ h e. told (λ (x : Lent) (b : Answer). LeftByClose l x s b) m l a H1 e (close_kept H1 refl refl))
      (λ h g e. told (λ (x : Lent) (b : Answer). LeftByClose l x s b) m l a H3 e (close_kept H3 refl refl))
      (λ h g e. told (λ (x : Lent) (b : Answer). LeftByClose l x s b) m _ a w.answer e (closed h g))
    where
      closed : rightly_lent l ≡ true → holds l.tabled.slots s ≡ true
          → LeftByClose l (lent (tables w.units (freed s l.tabled.slots)) (patch l.reply 0 w.written)) s w.answer
      closed h g =
          let silent = held_silent l.tabled.units (slot_at s l.tabled.slots) d clock (holds_open l.tabled.slots s g).1 in
          record {
            reply = ap (patch l.reply 0) silent ∙ patch_none l.reply 0;
            count = sym (whole_written l.tabled.units k d clock) ∙ ap length silent;
            slots = rw (whole_final l.tabled.units k d clock);
            units = good_units l.tabled.units k d clock;
            others = whole_others l.tabled.units k d clock (lengths_are _ _ _ h).0;
          }

-- A2 and A3 to a close free its slot, and leave every other byte
pub close_keeps : (l m : Lent) (s : ℕ) (a : Answer) → LeftByClose l m s a → is_a 0 a ≡ false → is_final a ≡ true
    → m ≡ with_slots (freed s l.tabled.slots) l
close_keeps l m s a left not-0 final = ap₂ lent (ap₂ tables (left.units not-0) (rw final at left.slots)) left.reply

-- H1 and H3 to a close leave every byte
pub close_form_keeps : (l m : Lent) (s : ℕ) (a : Answer) → LeftByClose l m s a → is_final a ≡ false → m ≡ l
close_form_keeps l m s a left unended =
    let not-0 = (either_false (is_a 0 a) (is_a 2 a) (either_false (is_good a) (is_a 3 a) unended).0).0 in
    ap₂ lent (ap₂ tables (left.units not-0) (rw unended at left.slots)) left.reply

-- ---- build, abort and reset: every answer but A0 leaves the table as it came

abbrev KeepsTable : List ℕ → TableOutcome → Type 0
KeepsTable table o = (a : Answer) (x : List ℕ) → leaves a x ≡ o → is_a 0 a ≡ false → x ≡ table

keeps : (table : List ℕ) (b : Answer) → KeepsTable table (leaves b table)
keeps table b a x e not-0 = (one_table a b x table (leaves b table) e refl).1

good_no_refusal : (table x : List ℕ) → KeepsTable table (leaves (Good 0) x)
good_no_refusal table x a y e not-0 =
    let q = (one_table a (Good 0) y x (leaves (Good 0) x) e refl).0 in
    let z : ◌≡◌ {A = ℕ} 0 1 = cc in
    absurd (omega arith)

pub build_keeps : (units : List ℕ) (u m t : ℕ) (id auth gen : List ℕ) (k : ℕ) (a : Answer) (x : List ℕ)
    → leaves a x ≡ build_out units u m t id auth gen k
    → is_a 0 a ≡ false → x ≡ units
unfolding build_out
build_keeps units u m t id auth gen k =
    pick_cases (KeepsTable units) (eqb (length units) 4096) _ _
    (λ f. pick_cases (KeepsTable units) (both (leb u 7) (both (leb m 1) (right_keeper units u k))) _ _ (λ g. good_no_refusal units _) (λ g. keeps units H5)) (λ f. keeps units H1)

pub abort_keeps : (slots : List ℕ) (s : ℕ) (a : Answer) (x : List ℕ) → leaves a x ≡ abort_out slots s → is_a 0 a ≡ false → x ≡ slots
unfolding abort_out
abort_keeps slots s =
    pick_cases (KeepsTable slots) (eqb (length slots) 8192) _ _
    (λ f. pick_cases (KeepsTable slots) (holds slots s) _ _ (λ g. good_no_refusal slots _) (λ g. keeps slots H3)) (λ f. keeps slots H1)

pub reset_keeps : (slots : List ℕ) (a : Answer) (x : List ℕ) → leaves a x ≡ reset_out slots → is_a 0 a ≡ false → x ≡ slots
unfolding reset_out
reset_keeps slots =
    pick_cases (KeepsTable slots) (eqb (length slots) 8192) _ _ (λ f. good_no_refusal slots _) (λ f. keeps slots H1)
