-- Laws of SHA-1's definitions: the four ranges of t, a turn of each loop, the length of a digest and its count of blocks.
use Rattle.std.specs.Prelude.{ℕ, zero, suc, ◌+◌, ◌*◌, ◌-◌, ◌≤◌, ◌<◌, ◌≡◌, refl, List, [], ◌∷◌, ◌++◌, length, get_or, take, set}
use Rattle.std.proofs.Common.{sym, ap, ap₂, ◌∙◌, subst, arith, add-one, add-suc, add-zero, add_assoc, length-append, length-set, take-suc-set, take_all, take-take, get_or-take, lt-ltb, le-ltb}
use Rattle.std.proofs.lemmas.List.{take-append-le, take-set-le, get_or_at}
use Rattle.wire.proofs.NumberLaws.{bytes_length}
use Rattle.words.specs.Words.{ch, parity, maj, word_at}
use Rattle.md.specs.Padding.{block_count}
use Rattle.md.proofs.PaddingLaws.{padded_blocks}
use Rattle.fips180.specs.declared.block.State.{State}
use Rattle.fips180.specs.Sha1.{f, K, mixed, W, schedule, turned, round, rounds, plus, compressed, digest_of, blocks, sha1}
use Rattle.fips180.specs.Begun.{Begun}
use Rattle.fips180.specs.Twenty.{RoundsBy}

-- ---- the four ranges of t (4.1.1, 4.2.1)

pub f_first : (t x y z : ℕ) → t < 20 → f t x y z ≡ ch x y z
unfolding f
f_first t x y z h = rw (lt-ltb t 20 h)

pub f_second : (t x y z : ℕ) → 20 ≤ t → t < 40 → f t x y z ≡ parity x y z
unfolding f
f_second t x y z g h = rw (le-ltb t 20 g, lt-ltb t 40 h)

pub f_third : (t x y z : ℕ) → 40 ≤ t → t < 60 → f t x y z ≡ maj x y z
unfolding f
f_third t x y z g h = rw (le-ltb t 20 (omega arith), le-ltb t 40 g, lt-ltb t 60 h)

pub f_fourth : (t x y z : ℕ) → 60 ≤ t → f t x y z ≡ parity x y z
unfolding f
f_fourth t x y z g = rw (le-ltb t 20 (omega arith), le-ltb t 40 (omega arith), le-ltb t 60 g)

pub K_first : (t : ℕ) → t < 20 → K t ≡ 0x5a827999
unfolding K
K_first t h = rw (lt-ltb t 20 h)

pub K_second : (t : ℕ) → 20 ≤ t → t < 40 → K t ≡ 0x6ed9eba1
unfolding K
K_second t g h = rw (le-ltb t 20 g, lt-ltb t 40 h)

pub K_third : (t : ℕ) → 40 ≤ t → t < 60 → K t ≡ 0x8f1bbcdc
unfolding K
K_third t g h = rw (le-ltb t 20 (omega arith), le-ltb t 40 g, lt-ltb t 60 h)

pub K_fourth : (t : ℕ) → 60 ≤ t → K t ≡ 0xca62c1d6
unfolding K
K_fourth t g = rw (le-ltb t 20 (omega arith), le-ltb t 40 (omega arith), le-ltb t 60 g)

-- ---- the schedule

pub schedule_zero : (block : List ℕ) → schedule block 0 ≡ []
unfolding schedule
schedule_zero block = refl

schedule_more : (block : List ℕ) (t : ℕ) → schedule block (t + 1) ≡ schedule block t ++ (W block (schedule block t) t ∷ [])
unfolding schedule
schedule_more block t = rw add-one refl

schedule_length : (block : List ℕ) (t : ℕ) → length (schedule block t) ≡ t
unfolding schedule
schedule_length block zero = refl
schedule_length block (suc t) = length-append (schedule block t) _ ∙ add-one (length (schedule block t)) ∙ ap suc (schedule_length block t)

W_early : (block w : List ℕ) (t : ℕ) → t < 16 → W block w t ≡ word_at block (t * 4)
unfolding W
W_early block w t h = rw (lt-ltb t 16 h)

-- the words that W t reads stand before t, so the whole array serves
W_late : (block w : List ℕ) (t : ℕ) → 16 ≤ t → W block (take t w) t ≡ mixed w t
unfolding W mixed
W_late block w t h =
    rw (le-ltb t 16 h, get_or-take t w (t - 3) 0 (omega arith), get_or-take t w (t - 8) 0 (omega arith), get_or-take t w (t - 14) 0 (omega arith), get_or-take t w (t - 16) 0 (omega arith))

-- each word of the schedule is W of those before it
schedule_prefix : (block : List ℕ) (t n : ℕ) → take t (schedule block (t + n)) ≡ schedule block t
unfolding schedule
schedule_prefix block t zero = rw add-zero (take_all t (schedule block t) (omega (arith, schedule_length block t)))
schedule_prefix block t (suc n) =
    rw (add-suc, take-append-le t (schedule block (t + n)) _ (omega (arith, schedule_length block (t + n))), schedule_prefix block t n)

-- the last of t + 1 words
last_of : (block : List ℕ) (t : ℕ) → get_or (schedule block (t + 1)) t 0 ≡ W block (schedule block t) t
last_of block t =
    ap (λ (l : List ℕ). get_or l t 0) (schedule_more block t)
    ∙ get_or_at (schedule block t) (W block (schedule block t) t) [] 0 t (schedule_length block t)

schedule_at : (block : List ℕ) (t : ℕ) → t < 80 → get_or (schedule block 80) t 0 ≡ W block (schedule block t) t
schedule_at block t h =
    let e : t + 1 + (80 - (t + 1)) ≡ 80 = omega arith in
    sym (get_or-take (t + 1) (schedule block 80) t 0 (omega arith))
    ∙ ap (λ (l : List ℕ). get_or l t 0) (rw e at (schedule_prefix block (t + 1) (80 - (t + 1))))
    ∙ last_of block t

-- the block's own words, one after another
pub early_stored : (block w : List ℕ) (t x : ℕ) → t < 16 → t < length w → take t w ≡ schedule block t → x ≡ word_at block (t * 4)
    → take (t + 1) (set w t x) ≡ schedule block (t + 1)
early_stored block w t x g h e q =
    let ex : x ≡ W block (schedule block t) t = q ∙ sym (W_early block (schedule block t) t g) in
    rw (add-one, take-suc-set w t x h, e, ex, ← schedule_more, add-one)

-- none of the rounds yet
pub begun_none : (w block : List ℕ) → length w ≡ 80 → take 16 w ≡ schedule block 16 → Begun w block 0
begun_none w block ew eo = record { room = ew; own = eo; words = sym (schedule_zero block) }

-- a word of the block's own is there already
module _ (w block : List ℕ) (t : ℕ) (b : Begun w block t) (g : t < 16) where
  own_front : take (t + 1) w ≡ schedule block (t + 1)
  own_front =
      let e : t + 1 + (16 - (t + 1)) ≡ 16 = omega arith in
      sym (take-take (t + 1) 16 w (omega arith)) ∙ ap (take (t + 1)) b.own ∙ rw e at (schedule_prefix block (t + 1) (16 - (t + 1)))

  pub early_word : (get_or w t 0 ≡ get_or (schedule block 80) t 0) × Begun w block (t + 1)
  early_word = (
    sym (get_or-take (t + 1) w t 0 (omega arith)) ∙ ap (λ (l : List ℕ). get_or l t 0) own_front ∙ last_of block t ∙ sym (schedule_at block t (omega arith)),
    record { room = b.room; own = b.own; words = own_front },
  )

-- a later one is stored
module _ (w block : List ℕ) (t x : ℕ) (h : t < 80) (g : 16 ≤ t) (b : Begun w block t) where
  pub late_word : x ≡ mixed w t → (x ≡ get_or (schedule block 80) t 0) × Begun (set w t x) block (t + 1)
  late_word e =
      let ex : x ≡ W block (schedule block t) t = e ∙ sym (W_late block w t g) ∙ ap (λ (l : List ℕ). W block l t) b.words in (
        ex ∙ sym (schedule_at block t h),
        record {
          room = length-set w t x ∙ b.room;
          own = take-set-le 16 w t x g ∙ b.own;
          words =
              ap (λ (j : ℕ). take j (set w t x)) (add-one t) ∙ take-suc-set w t x (omega (arith, b.room))
              ∙ ap₂ (λ (l : List ℕ) (y : ℕ). l ++ (y ∷ [])) b.words ex ∙ sym (schedule_more block t);
        },
      )

-- the same count, written otherwise
pub begun_at : {w block : List ℕ} {t u : ℕ} → Begun w block t → t ≡ u → Begun w block u
begun_at {w} {block} b e = subst (Begun w block) e b

-- ---- rounds

rounds_add : (w : List ℕ) (t n m : ℕ) (s : State) → rounds w t (n + m) s ≡ rounds w (t + n) m (rounds w t n s)
unfolding rounds
rounds_add w t n zero s = rw add-zero refl
rounds_add w t n (suc m) s = rw (add-suc, rounds_add w t n m s, add_assoc)

-- what serves a run of rounds serves those within it
pub rounds_within : (gives : ℕ → ℕ → ℕ → ℕ → Type 0) (k t u a b : ℕ) → RoundsBy gives k t u → t ≤ a → b ≤ u → RoundsBy gives k a b
unfolding RoundsBy
rounds_within gives k t u a b r h g = λ i p q. r i (omega arith) (omega arith)

-- a round, with the values that the code has for f t, K t and W t
pub round_turned : (w : List ℕ) (t : ℕ) (s : State) (fₜ kₜ wₜ : ℕ) → fₜ ≡ f t s.b s.c s.d → kₜ ≡ K t → wₜ ≡ get_or w t 0
    → turned s fₜ kₜ wₜ ≡ round w t s
unfolding round
round_turned w t s fₜ kₜ wₜ ef ek ew = rw (ef, ek, ew)

-- five rounds one after another, four fives, and four twenties with the sum: what the code's calls chain up to
pub chain_five : (w : List ℕ) (t : ℕ) (s s₁ s₂ s₃ s₄ s₅ : State) → s₁ ≡ round w t s → s₂ ≡ round w (t + 1) s₁ → s₃ ≡ round w (t + 2) s₂
    → s₄ ≡ round w (t + 3) s₃ → s₅ ≡ round w (t + 4) s₄ → s₅ ≡ rounds w t 5 s
unfolding rounds
chain_five w t s s₁ s₂ s₃ s₄ s₅ e₁ e₂ e₃ e₄ e₅ = rw (add-zero, ← e₁, ← e₂, ← e₃, ← e₄) e₅

pub chain_twenty : (w : List ℕ) (t : ℕ) (s s₅ s₁₀ s₁₅ s₂₀ : State) → s₅ ≡ rounds w t 5 s → s₁₀ ≡ rounds w (t + 5) 5 s₅
    → s₁₅ ≡ rounds w (t + 10) 5 s₁₀ → s₂₀ ≡ rounds w (t + 15) 5 s₁₅ → s₂₀ ≡ rounds w t 20 s
chain_twenty w t s s₅ s₁₀ s₁₅ s₂₀ e₅ e₁₀ e₁₅ e₂₀ =
    e₂₀ ∙ ap (rounds w (t + 15) 5) (e₁₅ ∙ ap (rounds w (t + 10) 5) (e₁₀ ∙ ap (rounds w (t + 5) 5) e₅ ∙ sym (rounds_add w t 5 5 s)) ∙ sym (rounds_add w t 10 5 s))
    ∙ sym (rounds_add w t 15 5 s)

pub chain_eighty : (block : List ℕ) (h v₀ v₁ v₂ v₃ r : State) → v₀ ≡ rounds (schedule block 80) 0 20 h
    → v₁ ≡ rounds (schedule block 80) 20 20 v₀
    → v₂ ≡ rounds (schedule block 80) 40 20 v₁ → v₃ ≡ rounds (schedule block 80) 60 20 v₂ → r ≡ plus v₃ h → r ≡ compressed h block
unfolding compressed
chain_eighty block h v₀ v₁ v₂ v₃ r e₀ e₁ e₂ e₃ er =
    let w : List ℕ = schedule block 80 in
    er ∙ ap (λ (v : State). plus v h)
    (e₃ ∙ ap (rounds w 60 20) (e₂ ∙ ap (rounds w 40 20) (e₁ ∙ ap (rounds w 20 20) e₀ ∙ sym (rounds_add w 0 20 20 h)) ∙ sym (rounds_add w 0 40 20 h))
    ∙ sym (rounds_add w 0 60 20 h))

-- ---- the end

pub sha1_length : (m : List ℕ) → length (sha1 m) ≡ 20
unfolding sha1 digest_of
sha1_length m = simp (length-append, bytes_length)

pub sha1_blocks : (m : List ℕ) → blocks m ≡ block_count (length m)
unfolding blocks
sha1_blocks m = padded_blocks m
