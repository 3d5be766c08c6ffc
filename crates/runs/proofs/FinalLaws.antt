-- Laws of final answers (document 01: A0, A2 and A3). One to an open or a close is that of the whole command, the open's own or the one
-- that the slot holds; and where it is GOOD, nothing refuses that command.
use Rattle.std.specs.Prelude.{◌≡◌, refl, true, false, List, [], ℕ, eqb, length}
use Rattle.std.proofs.Common.{arith}
use Rattle.wire.specs.Bytes.{patch}
use Rattle.model.specs.Protocol.{protocol_out}
use Rattle.model.specs.Refusal.{refusal}
use Rattle.model.specs.Answers.{is_good, is_final}
use Rattle.model.proofs.AnswerLaws.{told_apart}
use Rattle.model.specs.declared.Answer.{Answer}
use Rattle.model.specs.declared.Answer.TheVariants.{Parked, Full, H1, H2, H3}
use Rattle.slots.specs.Slot.{slot_at, right_token, lowest_free, freed}
use Rattle.std.specs.Prelude.{Option, Some, None}
use Rattle.judge.specs.Command.{code_of}
use Rattle.judge.specs.Seen.{seen}
use Rattle.calls.specs.Outcome.{Lent, lent, tables, Outcome, gives, with_slots, on_slots, rightly_lent}
use Rattle.calls.proofs.OutcomeLaws.{one_outcome}
use Rattle.calls.specs.Slots.{holds}
use Rattle.calls.specs.Whole.{Asked, Whole, whole_reason, whole}
use Rattle.calls.proofs.WholeLaws.{out_code, close_none}
use Rattle.calls.specs.Open.{reason_at_open, parks, parked_in, answered, open_out}
use Rattle.calls.specs.Close.{held_by, close_out}
use Rattle.runs.proofs.WholeLaws.{whole_cases}
use Rattle.runs.proofs.StepLaws.{open_by, close_by}

-- what answers a whole command, on the buffers l
pub record Answered (l : Lent) (w : Whole) (a : Answer) (m : Lent) : Type 0 where
  pub answer : a ≡ w.answer
  pub left : m ≡ lent (tables w.units l.tabled.slots) (patch l.reply 0 w.written)

module _ (a : Answer) (m : Lent) (final : is_final a ≡ true) where
  -- an outcome of an answer that is not final
  not_final : {P : Type 0} (b : Answer) (n : Lent) → gives a m ≡ gives b n → is_final b ≡ false → P
  not_final b n e f = absurd (told_apart is_final a b (one_outcome a b m n (gives b n) e refl).0 final f)

  answered_by : (l : Lent) (w : Whole) → gives a m ≡ answered l w → Answered l w a m
  answered_by l w e = let p = one_outcome a w.answer m _ (answered l w) e refl in record { answer = p.0; left = p.1 }

  module _ (l : Lent) (k : Asked) (clock : ℕ) where
    pub record Opened : Type 0 where
      pub right : rightly_lent l ≡ true
      pub sized : right_token (length k.token) ≡ true
      pub unparked : parks l.tabled.units k clock ≡ false
      pub whole_answered : Answered l (whole l.tabled.units k [] clock) a m

    pub open_final : gives a m ≡ open_out l k clock → Opened
    open_final =
        open_by l k clock (λ (o : Outcome). gives a m ≡ o → Opened)
        (λ h e. not_final H1 l e refl) (λ h g e. not_final H2 l e refl) (λ h g p. by_slot (lowest_free l.tabled.slots))
        (λ h g p e. record { right = h; sized = g; unparked = p; whole_answered = answered_by l (whole l.tabled.units k [] clock) e })
      where
        by_slot : (f : Option ℕ) → gives a m ≡ on_slots l (parked_in l.tabled.slots k f) → Opened
        by_slot (Some s) e = not_final (Parked (record { 0 = s })) _ e refl
        by_slot None e = not_final Full l e refl

  module _ (l : Lent) (s : ℕ) (d : List ℕ) (clock : ℕ) where
    pub record Closed : Type 0 where
      pub right : rightly_lent l ≡ true
      pub held : holds l.tabled.slots s ≡ true
      pub whole_answered :
          Answered (with_slots (freed s l.tabled.slots) l) (whole l.tabled.units (held_by (slot_at s l.tabled.slots)) d clock) a m

    pub close_final : gives a m ≡ close_out l s d clock → Closed
    close_final =
        close_by l s d clock (λ (o : Outcome). gives a m ≡ o → Closed) (λ h e. not_final H1 l e refl) (λ h g e. not_final H3 l e refl)
        (λ h g e. record { right = h; held = g; whole_answered = answered_by (with_slots (freed s l.tabled.slots) l) _ e })

-- ---- GOOD: nothing refuses

pub whole_good : (units : List ℕ) (k : Asked) (d : List ℕ) (clock : ℕ) → is_good (whole units k d clock).answer ≡ true
    → whole_reason units k d clock ≡ 0
unfolding refusal
whole_good units k d clock =
    whole_cases units k d clock (λ (w : Whole). is_good w.answer ≡ true → whole_reason units k d clock ≡ 0)
    (λ n e. let o : ◌≡◌ {A = ℕ} 0 1 = cc in absurd (omega arith)) (λ z t e. z) (λ z f r e. z) (λ z f r e. z)

module _ (a : Answer) (m : Lent) (good : is_good a ≡ true) where
  pub good_final : is_final a ≡ true
  good_final = rw good

  -- by the open's clock
  pub good_open : (l : Lent) (k : Asked) (clock : ℕ) → gives a m ≡ open_out l k clock → reason_at_open l.tabled.units k clock ≡ 0
  good_open l k clock e =
      let o = open_final a m good_final l k clock e in
      let z = whole_good l.tabled.units k [] clock (rw o.whole_answered.answer at good) in
      (close_none (seen l.tabled.units k.unit) k.command k.token [] clock z).0

  -- by the close's own
  pub good_close : (l : Lent) (s : ℕ) (d : List ℕ) (clock : ℕ) → gives a m ≡ close_out l s d clock
      → whole_reason l.tabled.units (held_by (slot_at s l.tabled.slots)) d clock ≡ 0
  good_close l s d clock e =
      let o = close_final a m good_final l s d clock e in
      whole_good l.tabled.units (held_by (slot_at s l.tabled.slots)) d clock (rw o.whole_answered.answer at good)

-- ---- a command that nothing refuses and that is answered at an open is not B5h, which carries data out

pub answered_code : (units : List ℕ) (k : Asked) (clock : ℕ) → parks units k clock ≡ false → whole_reason units k [] clock ≡ 0
    → eqb (code_of k.command) protocol_out ≡ true → ⊥
answered_code units k clock p z t =
    let r : reason_at_open units k clock ≡ 0 = (close_none (seen units k.unit) k.command k.token [] clock z).0 in
    let f = out_code (code_of k.command) (rw r at p) in
    let o : ◌≡◌ {A = ℕ} 0 1 = cc in
    omega arith
