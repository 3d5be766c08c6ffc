-- Laws of membership in a list of numbers.
use Rattle.std.specs.Prelude.{ℕ, ◌≡◌, refl, Bool, true, false, List, [], ◌∷◌, eqb}
use Rattle.std.proofs.Common.{ap, ◌∙◌, inl, inr, eqb-true, eq-eqb, ne_eqb}
use types.Run.{OneOf}
use Rattle.choice.specs.Choice.{both, either}
use Rattle.choice.specs.ChoiceLaws.{both_true, either_right}
use Rattle.model.specs.Among.{is_in}

-- ---- membership, and what an arm of a `match` on numbers tells: `OneOf`, an equation for each number of the arm

pub one_of_in : (xs : List ℕ) (n : ℕ) → OneOf xs n → is_in xs n ≡ true
one_of_in [] n a = absurd a
one_of_in (x ∷ []) n a = rw (eq-eqb n x a)
one_of_in (x ∷ y ∷ ys) n (inl e) = rw (eq-eqb n x e)
one_of_in (x ∷ y ∷ ys) n (inr a) = either_right (eqb n x) (is_in (y ∷ ys) n) (one_of_in (y ∷ ys) n a)

pub one_of_not : (xs : List ℕ) (n : ℕ) → (OneOf xs n → ⊥) → is_in xs n ≡ false
one_of_not [] n none = refl
one_of_not (x ∷ []) n none = rw (ne_eqb n x none)
one_of_not (x ∷ y ∷ ys) n none = rw (ne_eqb n x (λ e. none (inl e))) (one_of_not (y ∷ ys) n (λ a. none (inr a)))

-- ---- a test that each number of a list passes

abbrev pub all : (ℕ → Bool) → List ℕ → Bool
all f [] = true
all f (x ∷ xs) = both (f x) (all f xs)

all_step :
    (f : ℕ → Bool) (x n : ℕ) (rest here : Bool) → eqb n x ≡ here → f x ≡ true → (rest ≡ true → f n ≡ true) →
    either here rest ≡ true → f n ≡ true
all_step f x n rest true e p q h = ap f (eqb-true n x e) ∙ p
all_step f x n rest false e p q h = q h

pub all_at : (f : ℕ → Bool) (xs : List ℕ) → all f xs ≡ true → (n : ℕ) → is_in xs n ≡ true → f n ≡ true
all_at f [] t n h = cc
all_at f (x ∷ xs) t n h =
    let p = both_true (f x) (all f xs) t in
    all_step f x n (is_in xs n) (eqb n x) refl p.0 (λ k. all_at f xs p.1 n k) h
