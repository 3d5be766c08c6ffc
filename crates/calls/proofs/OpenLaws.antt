-- Laws of open: how the call goes, test by test.
use Rattle.std.specs.Prelude.{◌≡◌, Bool, true, false, eqb, length}
use Rattle.std.proofs.Math.Path.{refl}
use Rattle.std.proofs.Common.{sym, ap, ◌∙◌, ne_eqb}
use mathlib.Core.List.{List, []}
use Prim.Native.Nat.{ℕ}
use Rattle.wire.specs.Bytes.{patch}
use Rattle.wire.proofs.PatchLaws.{patch_none}
use Rattle.model.specs.Paper.{Paper}
use Rattle.model.specs.Codes.{data_out}
use Rattle.model.specs.Refusal.{refusal}
use Rattle.model.specs.declared.Answer.{Answer}
use Rattle.model.specs.declared.Answer.TheVariants.{Good, Run, H1, H2}
use Rattle.slots.specs.Slot.{right_token, lowest_free}
use Rattle.judge.specs.declared.facts.Facts.{Facts}
use Rattle.judge.specs.Command.{code_of, length_field, facts_of}
use Rattle.judge.specs.Seen.{Seen, seen}
use Rattle.pages.specs.In.{reply_of}
use Rattle.calls.specs.Outcome.{TableOutcome, leaves, Lent, lent, Outcome, gives, on_slots, with_slots, rightly_lent}
use Rattle.calls.specs.Whole.{Asked, is_replied, reply_to, passed}
use Rattle.calls.proofs.WholeLaws.{out_code, passed_keeps, judged_passed, judged_refused}
use Rattle.calls.specs.Open.{reason_at_open, parks, parked_in, judged_out, open_out}
use Rattle.calls.specs.Parts.{on_reply}

-- ---- the lengths

module _ (l : Lent) (k : Asked) (clock : ℕ) (b : Bool) (hb : b ≡ rightly_lent l) where
  pub open_h1 : b ≡ false → gives H1 l ≡ open_out l k clock
  unfolding open_out
  open_h1 f = rw (← hb, f)

  module _ (t : b ≡ true) (r : Bool) (hr : r ≡ right_token (length k.token)) where
    pub open_h2 : r ≡ false → gives H2 l ≡ open_out l k clock
    unfolding open_out
    open_h2 f = rw (← hb, t, ← hr, f)

    pub open_judged : r ≡ true → (o : Outcome) → o ≡ judged_out l k clock → o ≡ open_out l k clock
    unfolding open_out
    open_judged g o e = rw (← hb, t, ← hr, g) e

-- ---- the judgement

module _ (l : Lent) (k : Asked) (clock r : ℕ) (hr : r ≡ reason_at_open l.tabled.units k clock) where
  not_parks : (r ≡ 0 → ⊥) → parks l.tabled.units k clock ≡ false
  not_parks n = rw (← hr, ne_eqb r 0 n)

  pub judged_refuses : (r ≡ 0 → ⊥) → (a : Answer) → a ≡ refusal r → gives a l ≡ judged_out l k clock
  unfolding judged_out
  judged_refuses n a e =
      rw (not_parks n, ← hr, judged_refused (seen l.tabled.units k.unit) k.command [] r n, e) (rw patch_none)

  module _ (z : r ≡ 0) (b : Bool) (hb : b ≡ data_out (code_of k.command)) where
    pub judged_parks : b ≡ true → (a : Answer) (ss : List ℕ) → leaves a ss ≡ parked_in l.tabled.slots k (lowest_free l.tabled.slots)
        → gives a (with_slots ss l) ≡ judged_out l k clock
    unfolding judged_out
    judged_parks t a ss e = rw (← hr, z, ← hb, t) (ap (on_slots l) e)

    pub judged_answers : b ≡ false → (a : Answer) (rs : List ℕ)
        → leaves a rs ≡ on_reply l.reply (passed (seen l.tabled.units k.unit) k.command [])
        → gives a (lent l.tabled rs) ≡ judged_out l k clock
    unfolding judged_out
    judged_answers f a rs e =
        let s = seen l.tabled.units k.unit in
        let keeps = passed_keeps s k.command [] (out_code (code_of k.command) (sym hb ∙ f)) in
        rw (← hr, z, ← hb, f, judged_passed s k.command [] 0 refl, keeps) (ap (λ (o : TableOutcome). outcome o.answer o.table) e)
      where
        outcome : Paper → List ℕ → Outcome
        outcome p rs' = record { answer = p; left = lent l.tabled rs' }

-- ---- an answer at once

module _ (reply : List ℕ) (s : Seen) (c : List ℕ) (n : eqb (code_of c) 0xB5 ≡ false) (b : Bool) (hb : b ≡ is_replied c) where
  pub answers_page : b ≡ true → (m : ℕ) (rs : List ℕ) → m ≡ length (reply_to s c) → rs ≡ patch reply 0 (reply_to s c)
      → leaves (Good m) rs ≡ on_reply reply (passed s c [])
  unfolding passed
  answers_page t m rs hm hs = rw (n, ← hb, t, hm, hs)

  pub answers_run : b ≡ false → leaves Run reply ≡ on_reply reply (passed s c [])
  unfolding passed
  answers_run f = rw (n, ← hb, f) (rw patch_none)

-- the reply, as the code asks for it
pub reply_asked : (s : Seen) (c : List ℕ) (f : Facts) (n : ℕ) (own keys : List ℕ) → f ≡ facts_of c → n ≡ length_field c → own ≡ s.own
    → keys ≡ s.keys
    → reply_of f.page n own keys ≡ reply_to s c
reply_asked s c f n own keys ef en eo ek = rw (ef, en, eo, ek)
