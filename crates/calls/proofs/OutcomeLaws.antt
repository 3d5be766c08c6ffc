-- Laws of outcomes: one fixes the answer and every lent byte, so that no second answer meets an equation with it; and the lengths.
use Rattle.std.specs.Prelude.{◌≡◌, true, false, List, ℕ, eqb, length}
use Rattle.std.proofs.Common.{sym, ap, ◌∙◌, eqb-true, eq-eqb}
use borrow.Author.Tests.{ne_eqb}
use Rattle.choice.specs.ChoiceLaws.{both_true}
use Rattle.model.proofs.PaperLaws.{paper_apart}
use Rattle.model.specs.declared.Answer.{Answer}
use Rattle.calls.specs.Outcome.{TableOutcome, leaves, Tables, Lent, lent, Outcome, gives, right_lengths, rightly_lent}

pub one_table : (a b : Answer) (s t : List ℕ) (o : TableOutcome) → leaves a s ≡ o → leaves b t ≡ o → (a ≡ b) × (s ≡ t)
one_table a b s t o p q =
    let e : leaves a s ≡ leaves b t = p ∙ sym q in
    (paper_apart a b (ap (λ (x : TableOutcome). x.answer) e), ap (λ (x : TableOutcome). x.table) e)

pub one_outcome : (a b : Answer) (l m : Lent) (o : Outcome) → gives a l ≡ o → gives b m ≡ o → (a ≡ b) × (l ≡ m)
one_outcome a b l m o p q =
    let e : gives a l ≡ gives b m = p ∙ sym q in
    (paper_apart a b (ap (λ (x : Outcome). x.answer) e), ap (λ (x : Outcome). x.left) e)

-- ---- the lengths

pub lengths_are : (us ss rs : ℕ) → right_lengths us ss rs ≡ true → (us ≡ 4096) × (ss ≡ 8192) × (rs ≡ 512)
unfolding right_lengths
lengths_are us ss rs e =
    let p = both_true (eqb us 4096) _ e in
    let q = both_true (eqb ss 8192) _ p.1 in
    (eqb-true us 4096 p.0, eqb-true ss 8192 q.0, eqb-true rs 512 q.1)

pub lengths_right : (t : Tables) (reply : List ℕ) → length t.units ≡ 4096 → length t.slots ≡ 8192
    → rightly_lent (lent t reply) ≡ eqb (length reply) 512
unfolding right_lengths
lengths_right t reply hu hs = rw (eq-eqb (length t.units) 4096 hu, eq-eqb (length t.slots) 8192 hs)

module _ (us ss rs : ℕ) where
  pub units_wrong : (us ≡ 4096 → ⊥) → false ≡ right_lengths us ss rs
  unfolding right_lengths
  units_wrong n = rw (ne_eqb us 4096 n)

  pub slots_wrong : us ≡ 4096 → (ss ≡ 8192 → ⊥) → false ≡ right_lengths us ss rs
  unfolding right_lengths
  slots_wrong e n = rw (eq-eqb us 4096 e, ne_eqb ss 8192 n)

  pub reply_wrong : us ≡ 4096 → ss ≡ 8192 → (rs ≡ 512 → ⊥) → false ≡ right_lengths us ss rs
  unfolding right_lengths
  reply_wrong e f n = rw (eq-eqb us 4096 e, eq-eqb ss 8192 f, ne_eqb rs 512 n)

  pub none_wrong : us ≡ 4096 → ss ≡ 8192 → rs ≡ 512 → true ≡ right_lengths us ss rs
  unfolding right_lengths
  none_wrong e f g = rw (eq-eqb us 4096 e, eq-eqb ss 8192 f, eq-eqb rs 512 g)
