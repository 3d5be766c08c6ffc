-- Laws of blocks: as the library cuts them, none, some more, and a longer message.
use Prim.Native.Nat.{ℕ, zero, suc, ◌+◌, ◌*◌, ◌/◌, ◌%◌, ◌≤◌, ◌<◌, ◌-◌}
use Rattle.std.specs.Prelude.{◌≡◌, List, ◌++◌, length, get_or, take, drop}
use Rattle.std.proofs.Math.Path.{refl}
use Rattle.std.proofs.Common.{sym, ap, ◌∙◌, suc-add, take_all, ap₂}
use native.Mathlib.Omega.{arith}
use Rattle.std.proofs.Math.Nat.{zero-add}
use Rattle.std.proofs.Math.ListN.{length-drop}
use Rattle.std.proofs.Math.Seq.{drop-drop, drop-append-le}
use Rattle.std.proofs.lemmas.List.{take-append-le}
use Rattle.std.specs.Simd.{first_chunks}
use Rattle.md.specs.Chain.{absorb, Taken}

-- the i-th of the first k blocks of a message, as the library cuts them
pub chunk_at : (k i : ℕ) (m d : List ℕ) → i < k → get_or (first_chunks 64 k m) i d ≡ take 64 (drop (i * 64) m)
chunk_at zero i m d h = let f : ⊥ = omega arith in absurd f
chunk_at (suc k) zero m d h = refl
chunk_at (suc k) (suc i) m d h =
    let e : 64 + i * 64 ≡ suc i * 64 = omega arith in
    chunk_at k i (drop 64 m) d (omega arith) ∙ ap (take 64) (drop-drop (i * 64) 64 m ∙ ap (λ (n : ℕ). drop n m) e)

module _ {S : Type 0} (f : S → List ℕ → S) where
  pub absorb_zero : (s : S) (m : List ℕ) → absorb f 0 s m ≡ s
  unfolding absorb
  absorb_zero s m = refl

  pub absorb_add : (n k : ℕ) (s : S) (m : List ℕ) → absorb f (n + k) s m ≡ absorb f k (absorb f n s m) (drop (n * 64) m)
  unfolding absorb
  absorb_add zero k s m = rw zero-add refl
  absorb_add (suc n) k s m =
      let e : 64 + n * 64 ≡ suc n * 64 = omega arith in
      rw (suc-add, absorb_add n k, drop-drop, e)

  -- the last of n + 1 blocks
  pub absorb_last : (n : ℕ) (s : S) (m : List ℕ) → absorb f (n + 1) s m ≡ f (absorb f n s m) (take 64 (drop (n * 64) m))
  unfolding absorb
  absorb_last n s m = absorb_add n 1 s m

  -- a message that is one block
  pub absorb_block : (s : S) (b : List ℕ) → length b ≡ 64 → absorb f (length b / 64) s b ≡ f s b
  unfolding absorb
  absorb_block s b e = rw e (ap (f s) (take_all 64 b (omega arith)))

  -- what follows the blocks does not matter
  pub absorb_front : (n : ℕ) (s : S) (m x : List ℕ) → n * 64 ≤ length m → absorb f n s (m ++ x) ≡ absorb f n s m
  unfolding absorb
  absorb_front zero s m x h = refl
  absorb_front (suc n) s m x h =
      rw (take-append-le 64 m x (omega arith), drop-append-le 64 m x (omega arith), absorb_front n (f s (take 64 m)) (drop 64 m) x (rw length-drop (omega arith)))

  pub absorb_turn : (s v r : S) (m : List ℕ) (i : ℕ) → i / 64 * 64 ≡ i → v ≡ absorb f (i / 64) s m → r ≡ f v (take (i + 64 - i) (drop i m))
      → r ≡ absorb f ((i + 64) / 64) s m
  absorb_turn s v r m i e ev er =
      let e₁ : i + 64 - i ≡ 64 = omega arith in
      let e₂ : (i + 64) / 64 ≡ i / 64 + 1 = omega arith in
      er ∙ ap₂ f ev (ap₂ (λ (x y : ℕ). take x (drop y m)) e₁ (sym e))
      ∙ sym (ap (λ (x : ℕ). absorb f x s m) e₂ ∙ absorb_last (i / 64) s m)

  -- two states that have taken in the same message agree in all that the message fixes
  pub taken_agree : {s₀ h h' : S} {b b' : List ℕ} {n n' : ℕ} {m : List ℕ} → Taken f s₀ h b n m → Taken f s₀ h' b' n' m
      → (h ≡ h') × (n ≡ n') × (take (length m % 64) b ≡ take (length m % 64) b')
  taken_agree k k' = (k.whole ∙ sym k'.whole, k.count ∙ sym k'.count, k.rest ∙ sym k'.rest)
