-- Laws of lists of tests: of two lists the second is asked where nothing in the first applies; and that nothing applies is the same
-- whatever the order.
use Prim.{Unit, tt}
use Rattle.std.specs.Prelude.{◌≡◌, refl, Bool, true, false, not, List, [], ◌∷◌, ◌++◌, ℕ, eqb}
use Rattle.std.proofs.Common.{sym, ap, ◌∙◌, arith, eqb-true, eq-eqb, ne_eqb}
use Rattle.std.proofs.lemmas.Bool.{not-true}
use Rattle.choice.specs.Choice.{pick, both}
use Rattle.choice.specs.ChoiceLaws.{both_true}
use Rattle.judge.specs.Judgement.{Test, first}
use Rattle.judge.specs.Order.{or_else}

-- does every test have a reason, a number that is not 0?
abbrev pub named : List Test → Bool
named [] = true
named (t ∷ ts) = both (not (eqb t.reason 0)) (named ts)

pub named_append : (xs ys : List Test) → named xs ≡ true → named ys ≡ true → named (xs ++ ys) ≡ true
named_append [] ys h k = k
named_append (x ∷ xs) ys h k = let p = both_true (not (eqb x.reason 0)) (named xs) h in rw (p.0, named_append xs ys p.1 k)

-- ---- one list behind another

else_step : (b : Bool) (r x y : ℕ) → not (eqb r 0) ≡ true → pick b r (or_else x y) ≡ or_else (pick b r x) y
else_step true r x y h = rw (not-true (eqb r 0) h)
else_step false r x y h = refl

pub first_append : (xs ys : List Test) → named xs ≡ true → first (xs ++ ys) ≡ or_else (first xs) (first ys)
first_append [] ys h = refl
first_append (x ∷ xs) ys h =
    let p = both_true (not (eqb x.reason 0)) (named xs) h in
    ap (pick x.applies x.reason) (first_append xs ys p.1) ∙ else_step x.applies x.reason (first xs) (first ys) p.0

pub else_first : (r s : ℕ) → (r ≡ 0 → ⊥) → r ≡ or_else r s
else_first r s n = rw (ne_eqb r 0 n)

pub else_none : (r : ℕ) → or_else r 0 ≡ r
else_none r = by_cases (eqb r 0) refl
  where
    by_cases : (b : Bool) → eqb r 0 ≡ b → pick b 0 r ≡ r
    by_cases true e = sym (eqb-true r 0 e)
    by_cases false e = refl

else_assoc : (r s t : ℕ) → or_else r (or_else s t) ≡ or_else (or_else r s) t
else_assoc r s t = by_cases (eqb r 0) refl
  where
    by_cases : (b : Bool) → eqb r 0 ≡ b → or_else r (or_else s t) ≡ or_else (or_else r s) t
    by_cases true q = rw q
    by_cases false q = rw (q, q)

-- three lists, of which the first two are asked together
pub first_three : (xs ys zs : List Test) → named xs ≡ true → named ys ≡ true
    → first (xs ++ (ys ++ zs)) ≡ or_else (or_else (first xs) (first ys)) (first zs)
first_three xs ys zs h k =
    first_append xs (ys ++ zs) h ∙ ap (or_else (first xs)) (first_append ys zs k) ∙ else_assoc (first xs) (first ys) (first zs)

-- the second list is asked where the first says nothing, and else not
module _ (xs ys : List Test) (h : named xs ≡ true) (e : ℕ) (he : e ≡ first xs) where
  pub second_asked : e ≡ 0 → (r : ℕ) → r ≡ first ys → r ≡ first (xs ++ ys)
  second_asked z r k = k ∙ sym (first_append xs ys h ∙ rw (sym he ∙ z))

  pub second_left : (e ≡ 0 → ⊥) → e ≡ first (xs ++ ys)
  second_left n = else_first e (first ys) n ∙ ap (λ (x : ℕ). or_else x (first ys)) he ∙ sym (first_append xs ys h)

-- ---- no test applies

abbrev pub NoneApply : List Test → Type 0
NoneApply [] = Unit
NoneApply (t ∷ ts) = (t.applies ≡ false) × NoneApply ts

pub none_first : (ts : List Test) → NoneApply ts → first ts ≡ 0
none_first [] n = refl
none_first (t ∷ ts) n = rw n.0 (none_first ts n.1)

none_step : (t : Test) (ts : List Test) (b : Bool) → t.applies ≡ b → not (eqb t.reason 0) ≡ true → pick b t.reason (first ts) ≡ 0
    → (t.applies ≡ false) × (first ts ≡ 0)
none_step t ts false q h k = (q, k)
none_step t ts true q h k =
    let z : true ≡ false = sym (eq-eqb t.reason 0 k) ∙ not-true (eqb t.reason 0) h in
    let o : ◌≡◌ {A = ℕ} 0 1 = cc in
    absurd (omega arith)

pub first_none : (ts : List Test) → named ts ≡ true → first ts ≡ 0 → NoneApply ts
first_none [] h e = tt
first_none (t ∷ ts) h e =
    let p = both_true (not (eqb t.reason 0)) (named ts) h in
    let q = none_step t ts t.applies refl p.0 e in
    (q.0, first_none ts p.1 q.1)

pub none_append : (xs ys : List Test) → NoneApply xs → NoneApply ys → NoneApply (xs ++ ys)
none_append [] ys p q = q
none_append (x ∷ xs) ys p q = (p.0, none_append xs ys p.1 q)

pub append_none : (xs ys : List Test) → NoneApply (xs ++ ys) → NoneApply xs × NoneApply ys
append_none [] ys n = (tt, n)
append_none (x ∷ xs) ys n = let p = append_none xs ys n.1 in ((n.0, p.0), p.1)

-- two groups in the other order refuse nothing together as they did
pub swapped_none : (xs ys : List Test) → named xs ≡ true → named ys ≡ true → first (xs ++ ys) ≡ 0 → first (ys ++ xs) ≡ 0
swapped_none xs ys h k e =
    let p = append_none xs ys (first_none (xs ++ ys) (named_append xs ys h k) e) in
    none_first (ys ++ xs) (none_append ys xs p.1 p.0)
