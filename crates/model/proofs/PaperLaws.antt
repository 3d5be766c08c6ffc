-- No two answers have the same number and values in document 01: the answer can be read back from them.
use Rattle.std.specs.Prelude.{ℕ, ◌≡◌, refl, List, eqb, get_or}
use Rattle.std.proofs.Common.{sym, ap, ◌∙◌}
use Rattle.choice.specs.Choice.{pick}
use Rattle.model.specs.Paper.{No, A, H, Paper, paper_of}
use Rattle.model.specs.declared.Answer.{Answer}
use Rattle.model.specs.declared.Answer.TheVariants.{Good, Parked, Run, Check, Full, H1, H2, H3, H4, H5}

read_a : ℕ → List ℕ → Answer
read_a n vs =
    let v : ℕ → ℕ = λ i. get_or vs i 0 in
    pick (eqb n 0) (Good (v 1))
    (pick (eqb n 1) (Parked (record { 0 = v 0 }))
    (pick (eqb n 2) Run
    (pick (eqb n 3) (Check (record { key = v 1; code = v 2; qualifier = v 3; reason = v 4 }))
    Full)))

read_h : ℕ → Answer
read_h n = pick (eqb n 1) H1 (pick (eqb n 2) H2 (pick (eqb n 3) H3 (pick (eqb n 4) H4 H5)))

read : No → List ℕ → Answer
read (A n) vs = read_a n vs
read (H n) vs = read_h n

pub answer_of : Paper → Answer
answer_of p = read p.no p.values

pub answer_back : (a : Answer) → answer_of (paper_of a) ≡ a
unfolding answer_of read read_a read_h
answer_back (Good count) = refl
answer_back (Parked slot) = refl
answer_back Run = refl
answer_back (Check s) = refl
answer_back Full = refl
answer_back H1 = refl
answer_back H2 = refl
answer_back H3 = refl
answer_back H4 = refl
answer_back H5 = refl

pub paper_apart : (a b : Answer) → paper_of a ≡ paper_of b → a ≡ b
paper_apart a b e = sym (answer_back a) ∙ ap answer_of e ∙ answer_back b
