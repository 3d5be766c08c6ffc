-- Laws of the search for a byte: the place before which it does not stand is that of the definition.
use Rattle.std.specs.Prelude.{◌≡◌, refl, List, [], ◌∷◌, ℕ, zero, suc, ◌+◌, ◌<◌, length, get_or}
use Rattle.std.proofs.Common.{arith, subst, ⊎_elim, eq-eqb, ne_eqb}
use Rattle.text.specs.Scan.{index_of}
use Rattle.text.proofs.HexLaws.{last_or_before}

pub index_none : (c : ℕ) (s : List ℕ) → ((k : ℕ) → k < length s → get_or s k 0 ≡ c → ⊥) → index_of c s ≡ length s
unfolding index_of
index_none c [] h = refl
index_none c (x ∷ s) h = rw (ne_eqb x c (h 0 (omega arith))) (omega (arith, index_none c s (λ k l. h (suc k) (omega arith))))

pub index_found : (c : ℕ) (s : List ℕ) (i : ℕ) → i < length s → get_or s i 0 ≡ c → ((k : ℕ) → k < i → get_or s k 0 ≡ c → ⊥)
    → i ≡ index_of c s
unfolding index_of
index_found c [] i h e n = absurd (omega arith)
index_found c (x ∷ s) zero h e n = rw (eq-eqb x c e) refl
index_found c (x ∷ s) (suc i) h e n =
    rw (ne_eqb x c (n 0 (omega arith))) (omega (arith, index_found c s i (omega arith) e (λ k l. n (suc k) (omega arith))))

-- c stands at no place before i, nor at i: so at none before the next
pub none_next : (c : ℕ) (s : List ℕ) (i : ℕ) → ((k : ℕ) → k < i → get_or s k 0 ≡ c → ⊥) → (get_or s i 0 ≡ c → ⊥)
    → (k : ℕ) → k < i + 1 → get_or s k 0 ≡ c → ⊥
none_next c s i before here k h e =
    ⊎_elim (λ g. before k g e) (λ q. here (subst (λ (j : ℕ). get_or s j 0 ≡ c) q e)) (last_or_before k i (omega arith))
