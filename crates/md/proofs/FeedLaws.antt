-- What feeding does, in its three cases: the part fits into the buffer's room, just fills it, or starts at a block's end.
use Prim.Native.Nat.{ℕ, ◌+◌, ◌-◌, ◌*◌, ◌/◌, ◌%◌, ◌^◌, ◌<◌}
use Rattle.std.specs.Prelude.{◌≡◌}
use Rattle.std.proofs.Math.Path.{sym, ap, ap₂}
use Rattle.std.proofs.Common.{◌∙◌, length-drop, drop_of_length-le}
use mathlib.Core.List.{List, ◌++◌, append-nil}
use native.Mathlib.Omega.{arith}
use Rattle.std.proofs.Math.ListN.{length, take, drop, length-append}
use Rattle.std.proofs.Math.Seq.{drop-append-add, drop-append-le, drop-append_seam, paste, take-paste, take_all}
use Rattle.md.specs.Padding.{padding, padded}
use Rattle.md.proofs.PaddingLaws.{padding_mod}
use Rattle.md.specs.Chain.{absorb, Taken}
use Rattle.md.proofs.ChainLaws.{absorb_add, absorb_last, absorb_front}

-- ---- numbers, apart from the lists: a count of l bytes before and n new ones

count_add : (t l n c : ℕ) → t ≡ l % 2 ^ 64 → c ≡ (t + n) % 2 ^ 64 → c ≡ (l + n) % 2 ^ 64
count_add t l n c p q = omega arith

fill_of : (t l : ℕ) → t ≡ l % 2 ^ 64 → t % 64 ≡ l % 64
fill_of t l p = omega arith

-- n bytes that end at a block's end, and n bytes from a block's end on
blocks_full : (l n : ℕ) → l % 64 + n ≡ 64 → ((l + n) / 64 ≡ l / 64 + 1) × ((l + n) % 64 ≡ 0)
blocks_full l n e = (omega arith, omega arith)

blocks_aligned : (l n : ℕ) → l % 64 ≡ 0 → ((l + n) / 64 ≡ l / 64 + n / 64) × ((l + n) % 64 ≡ n % 64) × (l / 64 * 64 ≡ l)
blocks_aligned l n e = (omega arith, omega arith, omega arith)

-- ---- lists

-- a copy that goes to the end
paste_full : (d : List ℕ) (at : ℕ) (s : List ℕ) → at + length s ≡ length d → paste d at s (length s) ≡ take at d ++ s
paste_full d at s e =
    ap (λ (x : List ℕ). take at d ++ take (length s) s ++ x) (drop_of_length-le d {i = at + length s} (omega arith))
    ∙ append-nil (take at d ++ take (length s) s)
    ∙ ap (λ (x : List ℕ). take at d ++ x) (take_all (length s) s (omega arith))

-- a part that goes to the end
pub part_end : (s : List ℕ) (a : ℕ) → take (length s - a) (drop a s) ≡ drop a s
part_end s a = take_all (length s - a) (drop a s) (rw length-drop (omega arith))

module _ {S : Type 0} (f : S → List ℕ → S) (s₀ h : S) (buf : List ℕ) (total : ℕ) (m s : List ℕ) (k : Taken f s₀ h buf total m) where
  L : ℕ
  L = length m

  -- the count, once the message's length is L + length s
  counted : (n : ℕ) → n ≡ (total + length s) % 2 ^ 64 → n ≡ length (m ++ s) % 2 ^ 64
  unfolding L
  counted n e = count_add total L (length s) n k.count e ∙ ap (λ (x : ℕ). x % 2 ^ 64) (sym (length-append m s))

  -- fewer bytes than the buffer has room for: they are copied into it
  pub feed_short : (b : List ℕ) (n : ℕ) → length buf ≡ 64 → total % 64 + length s < 64
      → b ≡ paste buf (total % 64) s (length s) → n ≡ (total + length s) % 2 ^ 64 → Taken f s₀ h b n (m ++ s)
  unfolding L
  feed_short b n full room eb en =
      let ef : total % 64 ≡ L % 64 = fill_of _ _ k.count in
      let el : length (m ++ s) ≡ L + length s = length-append m s in
      let ed : length (m ++ s) / 64 ≡ L / 64 = omega arith in
      let em : length (m ++ s) % 64 ≡ total % 64 + length s = omega arith in
      record {
        count = counted n en;
        whole = k.whole ∙ sym (ap (λ (x : ℕ). absorb f x s₀ (m ++ s)) ed ∙ absorb_front f (L / 64) s₀ m s (omega arith));
        rest =
            ap₂ take em eb
            ∙ take-paste buf (total % 64) s (length s) (omega arith) (omega arith)
            ∙ ap₂ (λ (x y : List ℕ). x ++ y) (ap (λ (x : ℕ). take x buf) ef ∙ k.rest) (take_all (length s) s (omega arith))
            ∙ sym (ap (λ (x : ℕ). drop (x * 64) (m ++ s)) ed ∙ drop-append-le (L / 64 * 64) m s (omega arith));
      }

  -- as many as there is room for: the full buffer is a block, and whatever stands in the buffer then does not count
  pub feed_full : (b any : List ℕ) (h₁ : S) (n : ℕ) → length buf ≡ 64 → total % 64 + length s ≡ 64
      → b ≡ paste buf (total % 64) s (length s) → h₁ ≡ f h b → n ≡ (total + length s) % 2 ^ 64 → Taken f s₀ h₁ any n (m ++ s)
  unfolding L
  feed_full b any h₁ n full fits eb eh en =
      let q : List ℕ = drop (L / 64 * 64) m in
      let ef : total % 64 ≡ L % 64 = fill_of _ _ k.count in
      let el : length (m ++ s) ≡ L + length s = length-append m s in
      let ns = blocks_full L (length s) (omega arith) in
      let ed : length (m ++ s) / 64 ≡ L / 64 + 1 = ap (λ (x : ℕ). x / 64) el ∙ ns.0 in
      let em : length (m ++ s) % 64 ≡ 0 = ap (λ (x : ℕ). x % 64) el ∙ ns.1 in
      let eq : b ≡ q ++ s =
      eb ∙ paste_full buf (total % 64) s (omega arith) ∙ ap (λ (x : List ℕ). x ++ s) (ap (λ (x : ℕ). take x buf) ef ∙ k.rest) in
      let lq : length (q ++ s) ≡ 64 = length-append q s ∙ rw (length-drop (L / 64 * 64) m) (omega arith) in
      let eb₂ : b ≡ take 64 (drop (L / 64 * 64) (m ++ s)) =
      eq ∙ sym (ap (take 64) (drop-append-le (L / 64 * 64) m s (omega arith)) ∙ take_all 64 (q ++ s) (omega arith)) in
      record {
        count = counted n en;
        whole =
            eh ∙ ap₂ f (k.whole ∙ sym (absorb_front f (L / 64) s₀ m s (omega arith))) eb₂
            ∙ sym (ap (λ (x : ℕ). absorb f x s₀ (m ++ s)) ed ∙ absorb_last f (L / 64) s₀ (m ++ s));
        rest = ap (λ (x : ℕ). take x any) em ∙ sym (drop_of_length-le (m ++ s) {i = length (m ++ s) / 64 * 64} (omega arith));
      }

  -- from a block's end on: whole blocks are taken from where they lie, and what is left goes into the buffer
  pub feed_aligned : (b : List ℕ) (h₁ : S) (n : ℕ) → total % 64 ≡ 0 → h₁ ≡ absorb f (length s / 64) h s
      → take (length s % 64) b ≡ drop (length s / 64 * 64) s → n ≡ (total + length s) % 2 ^ 64 → Taken f s₀ h₁ b n (m ++ s)
  unfolding L
  feed_aligned b h₁ n at eh eb en =
      let ef : L % 64 ≡ 0 = sym (fill_of _ _ k.count) ∙ at in
      let el : length (m ++ s) ≡ L + length s = length-append m s in
      let ns = blocks_aligned L (length s) ef in
      let ed : length (m ++ s) / 64 ≡ L / 64 + length s / 64 = ap (λ (x : ℕ). x / 64) el ∙ ns.0 in
      let em : length (m ++ s) % 64 ≡ length s % 64 = ap (λ (x : ℕ). x % 64) el ∙ ns.1 in
      let eL : drop (L / 64 * 64) (m ++ s) ≡ s = ap (λ (x : ℕ). drop x (m ++ s)) ns.2 ∙ drop-append_seam m s in
      let e* : length (m ++ s) / 64 * 64 ≡ L + length s / 64 * 64 = omega arith in
      record {
        count = counted n en;
        whole =
            eh ∙ ap₂ (absorb f (length s / 64)) (k.whole ∙ sym (absorb_front f (L / 64) s₀ m s (omega arith))) (sym eL)
            ∙ sym (ap (λ (x : ℕ). absorb f x s₀ (m ++ s)) ed ∙ absorb_add f (L / 64) (length s / 64) s₀ (m ++ s));
        rest =
            ap (λ (x : ℕ). take x b) em ∙ eb
            ∙ sym (ap (λ (x : ℕ). drop x (m ++ s)) e* ∙ drop-append-add m s (length s / 64 * 64));
      }

-- the end: a tail that is all that the state has not absorbed, followed by the padding of the count, absorbed from the state on, gives
-- the padded message absorbed from the start on
blocks_ended : (l n t : ℕ) → t ≡ l % 64 → (l + n) / 64 ≡ l / 64 + (t + n) / 64
blocks_ended l n t e = omega arith

pub absorb_end : {S : Type 0} (f : S → List ℕ → S) (s₀ h : S) (tail : List ℕ) (total : ℕ) (m : List ℕ) → Taken f s₀ h tail total m
    → length tail ≡ total % 64
    → absorb f (length (tail ++ padding total) / 64) h (tail ++ padding total) ≡ absorb f (length (padded m) / 64) s₀ (padded m)
unfolding padded
absorb_end f s₀ h tail total m k et =
    let ep : padding total ≡ padding (length m) = ap padding k.count ∙ padding_mod (length m) in
    let el : length tail ≡ length m % 64 = et ∙ fill_of _ _ k.count in
    let rest : tail ≡ drop (length m / 64 * 64) m = sym (take_all (length m % 64) tail (omega arith)) ∙ k.rest in
    let eb : length (m ++ padding (length m)) / 64 ≡ length m / 64 + length (tail ++ padding (length m)) / 64 =
    ap (λ (x : ℕ). x / 64) (length-append m (padding (length m))) ∙ blocks_ended (length m) (length (padding (length m))) (length tail) el
    ∙ ap (λ (x : ℕ). length m / 64 + x / 64) (sym (length-append tail (padding (length m)))) in
    let er : drop (length m / 64 * 64) (m ++ padding (length m)) ≡ tail ++ padding (length m) =
    drop-append-le (length m / 64 * 64) m (padding (length m)) (omega arith) ∙ ap (λ (x : List ℕ). x ++ padding (length m)) (sym rest) in
    ap (λ (x : List ℕ). absorb f (length (tail ++ x) / 64) h (tail ++ x)) ep
    ∙ sym
    (ap (λ (x : ℕ). absorb f x s₀ (m ++ padding (length m))) eb
    ∙ absorb_add f (length m / 64) (length (tail ++ padding (length m)) / 64) s₀ (m ++ padding (length m))
    ∙ ap₂ (absorb f (length (tail ++ padding (length m)) / 64)) (absorb_front f (length m / 64) s₀ m (padding (length m)) (omega arith) ∙ sym k.whole) er)
