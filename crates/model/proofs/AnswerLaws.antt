-- Laws of answers by their numbers: a test tells answers apart, a final answer is not another one, and one that is not GOOD is refused.
use Rattle.std.specs.Prelude.{◌≡◌, refl, Bool, true, false, [], ℕ, ◌<◌, eqb}
use Rattle.std.proofs.Common.{sym, ap, ◌∙◌, arith, eqb-true, ne_eqb}
use Rattle.choice.specs.Choice.{either}
use Rattle.model.specs.Paper.{No, A, H, paper_of}
use Rattle.model.specs.Answers.{is_number_a, is_a, is_good, is_final, is_refused}
use Rattle.model.specs.declared.SlotNo.{SlotNo}
use Rattle.model.specs.declared.Sense.{Sense}
use Rattle.model.specs.declared.Answer.{Answer}
use Rattle.model.specs.declared.Answer.TheVariants.{Good, Parked, Run, Check, Full, H1, H2, H3, H4, H5}

-- answers that a test tells apart are not the same
pub told_apart : (f : Answer → Bool) (a b : Answer) → a ≡ b → f a ≡ true → f b ≡ false → ⊥
told_apart f a b e p q =
    let z : true ≡ false = sym p ∙ ap f e ∙ q in
    let n : ◌≡◌ {A = ℕ} 0 1 = cc in
    omega arith

-- of a final answer, another number than 0, 2 and 3 is not its own
final_number : (no : No) (n : ℕ) → (n ≡ 0 → ⊥) → (n ≡ 2 → ⊥) → (n ≡ 3 → ⊥)
    → either (either (is_number_a 0 no) (is_number_a 2 no)) (is_number_a 3 no) ≡ true → is_number_a n no ≡ false
final_number (H m) n n0 n2 n3 e = cc
final_number (A m) n n0 n2 n3 e = go (eqb m 0) (eqb m 2) (eqb m 3) (λ q. eqb-true m 0 q) (λ q. eqb-true m 2 q) (λ q. eqb-true m 3 q) e
  where
    go : (a b c : Bool) → (a ≡ true → m ≡ 0) → (b ≡ true → m ≡ 2) → (c ≡ true → m ≡ 3) → either (either a b) c ≡ true → eqb m n ≡ false
    go true b c p q r k = let z = p refl in ne_eqb m n (λ w. n0 (omega arith))
    go false true c p q r k = let z = q refl in ne_eqb m n (λ w. n2 (omega arith))
    go false false true p q r k = let z = r refl in ne_eqb m n (λ w. n3 (omega arith))
    go false false false p q r k = let z : ◌≡◌ {A = ℕ} 0 1 = cc in absurd (omega arith)

pub final_not_parked : (a : Answer) → is_final a ≡ true → is_a 1 a ≡ false
final_not_parked a e = final_number (paper_of a).no 1 (λ z. omega arith) (λ z. omega arith) (λ z. omega arith) e

pub final_not_full : (a : Answer) → is_final a ≡ true → is_a 4 a ≡ false
final_not_full a e = final_number (paper_of a).no 4 (λ z. omega arith) (λ z. omega arith) (λ z. omega arith) e

-- a final answer that is not GOOD is refused
pub final_refused : (a : Answer) → is_final a ≡ true → (is_good a ≡ true → ⊥) → is_refused a ≡ true
final_refused a e n = go (is_good a) (is_a 3 a) n e
  where
    go : (b c : Bool) → (b ≡ true → ⊥) → either b c ≡ true → c ≡ true
    go true c k q = absurd (k refl)
    go false c k q = q

-- what holds of A0 to A4, and of every answer that is an H with no values, holds of every answer
pub answer_cases : (P : Answer → Type 0) → ((n : ℕ) → P (Good n)) → ((s : SlotNo) → P (Parked s)) → P Run → ((s : Sense) → P (Check s))
    → P Full
    → ((a : Answer) (n : ℕ) → n < 16 → paper_of a ≡ record { no = H n; values = [] } → P a) → (a : Answer) → P a
answer_cases P good parked run check full h (Good n) = good n
answer_cases P good parked run check full h (Parked s) = parked s
answer_cases P good parked run check full h Run = run
answer_cases P good parked run check full h (Check s) = check s
answer_cases P good parked run check full h Full = full
answer_cases P good parked run check full h H1 = h H1 1 (omega arith) refl
answer_cases P good parked run check full h H2 = h H2 2 (omega arith) refl
answer_cases P good parked run check full h H3 = h H3 3 (omega arith) refl
answer_cases P good parked run check full h H4 = h H4 4 (omega arith) refl
answer_cases P good parked run check full h H5 = h H5 5 (omega arith) refl
