-- Laws of the key's block and of the mask: what the code's copy and loop leave.
use Rattle.std.specs.Prelude.{ℕ, suc, ◌+◌, ◌≤◌, ◌<◌, ◌≡◌, refl, List, [], ◌∷◌, ◌++◌, map, length, get_or, take, drop, set, replicate}
use Rattle.std.proofs.Common.{sym, ap, ap₂, ◌∙◌, append-nil, arith, add-one, drop_of_length-le, take-suc, drop-cons, length-take-le, take_all}
use Rattle.std.proofs.lemmas.List.{length-map, set_at, get_or_at}
use Rattle.std.proofs.Math.Seq.{append_snoc, paste}
use Rattle.std.specs.Int.Bits.{bit_xor}
use Rattle.md.proofs.PaddingLaws.{before_zeros}
use Rattle.hmac.specs.Hmac.{extended, masked}

-- ---- the mask, byte by byte

map_append : (f : ℕ → ℕ) (a b : List ℕ) → map f (a ++ b) ≡ map f a ++ map f b
map_append f [] b = refl
map_append f (x ∷ a) b = ap (λ (r : List ℕ). f x ∷ r) (map_append f a b)

pub masked_none : (pad : ℕ) (k : List ℕ) → k ≡ masked pad (take 0 k) ++ drop 0 k
unfolding masked
masked_none pad k = refl

pub masked_more : (pad : ℕ) (k b : List ℕ) (i : ℕ) → i < length k → b ≡ masked pad (take i k) ++ drop i k
    → set b i (bit_xor (get_or b i 0) pad) ≡ masked pad (take (i + 1) k) ++ drop (i + 1) k
unfolding masked
masked_more pad k b i h e =
    let f : ℕ → ℕ = λ x. bit_xor x pad in
    let p : List ℕ = map f (take i k) in
    let x : ℕ = get_or k i 0 in
    let lp : length p ≡ i = length-map (take i k) f ∙ length-take-le i k (omega arith) in
    let eb : b ≡ p ++ x ∷ drop (suc i) k = e ∙ ap (λ (r : List ℕ). p ++ r) (drop-cons k i 0 h) in
    let ex : get_or b i 0 ≡ x = ap (λ (l : List ℕ). get_or l i 0) eb ∙ get_or_at p x (drop (suc i) k) 0 i lp in
    ap₂ (λ (l : List ℕ) (y : ℕ). set l i (f y)) eb ex
    ∙ set_at p x (drop (suc i) k) (f x) i lp
    ∙ sym (append_snoc p (f x) (drop (suc i) k))
    ∙ ap (λ (l : List ℕ). l ++ drop (suc i) k) (sym (ap (map f) (take-suc k i 0 h) ∙ map_append f (take i k) (x ∷ [])))
    ∙ ap (λ (j : ℕ). map f (take j k) ++ drop j k) (sym (add-one i))

pub masked_done : (pad : ℕ) (k b : List ℕ) (i : ℕ) → length k ≤ i → b ≡ masked pad (take i k) ++ drop i k → b ≡ masked pad k
masked_done pad k b i h e =
    e ∙ ap₂ (λ (x y : List ℕ). masked pad x ++ y) (take_all i k h) (drop_of_length-le k h) ∙ append-nil (masked pad k)

-- ---- zeros after a key

pub extended_law : (n : ℕ) (k : List ℕ) → length k ≤ n → paste (replicate n 0) 0 k (length k) ≡ extended n k
unfolding extended
extended_law n k h = before_zeros n k h
