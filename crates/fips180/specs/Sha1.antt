-- SHA-1, after FIPS 180-4, section by section. Each definition is to be held against the section that it names. docs/RULES.md, 8.1.
use Rattle.std.specs.Prelude.{ℕ, zero, suc, ◌+◌, ◌-◌, ◌*◌, ◌/◌, List, [], ◌∷◌, ◌++◌, length, get_or, ltb}
use Rattle.choice.specs.Choice.{pick}
use Rattle.words.specs.Words.{rotl, xor32, add32, ch, parity, maj, word_at, bytes32}
use Rattle.md.specs.Padding.{padded}
use Rattle.md.specs.Chain.{absorb}
use Rattle.fips180.specs.declared.block.State.{State}

-- 4.1.1: f t (x, y, z) is Ch for 0 ≤ t ≤ 19, Parity for 20 ≤ t ≤ 39, Maj for 40 ≤ t ≤ 59, Parity for 60 ≤ t ≤ 79
unfoldable pub f : ℕ → ℕ → ℕ → ℕ → ℕ
f t x y z =
    pick (ltb t 20) (ch x y z)
    (pick (ltb t 40) (parity x y z)
    (pick (ltb t 60) (maj x y z)
    (parity x y z)))

-- 4.2.1: K t, in the same four ranges of t
unfoldable pub K : ℕ → ℕ
K t =
    pick (ltb t 20) 0x5a827999
    (pick (ltb t 40) 0x6ed9eba1
    (pick (ltb t 60) 0x8f1bbcdc
    0xca62c1d6))

-- 5.3.1: the initial hash value, H0 to H4
unfoldable pub initial : State
initial = record { a = 0x67452301; b = 0xefcdab89; c = 0x98badcfe; d = 0x10325476; e = 0xc3d2e1f0 }

-- 6.1.2, step 1: W t for 16 ≤ t ≤ 79, from the words w before it: ROTL 1 (W (t-3) ⊕ W (t-8) ⊕ W (t-14) ⊕ W (t-16))
unfoldable pub mixed : List ℕ → ℕ → ℕ
mixed w t = rotl 1 (xor32 (xor32 (xor32 (get_or w (t - 3) 0) (get_or w (t - 8) 0)) (get_or w (t - 14) 0)) (get_or w (t - 16) 0))

-- W t: for 0 ≤ t ≤ 15 the block's own word
unfoldable pub W : List ℕ → List ℕ → ℕ → ℕ
W block w t = pick (ltb t 16) (word_at block (t * 4)) (mixed w t)

-- the first t words of the message schedule of a block
unfoldable pub schedule : List ℕ → ℕ → List ℕ
schedule block zero = []
schedule block (suc t) = schedule block t ++ (W block (schedule block t) t ∷ [])

-- 6.1.2, step 3, where fₜ, kₜ and wₜ are f t (b, c, d), K t and W t: T = ROTL 5 (a) + fₜ + e + kₜ + wₜ;
-- e = d; d = c; c = ROTL 30 (b); b = a; a = T
unfoldable pub turned : State → ℕ → ℕ → ℕ → State
turned s fₜ kₜ wₜ =
    record {
      a = add32 (add32 (add32 (add32 (rotl 5 s.a) fₜ) s.e) kₜ) wₜ;
      b = s.a;
      c = rotl 30 s.b;
      d = s.c;
      e = s.d;
    }

-- round t over the schedule w
unfoldable pub round : List ℕ → ℕ → State → State
round w t s = turned s (f t s.b s.c s.d) (K t) (get_or w t 0)

-- n rounds, from round t on
unfoldable pub rounds : List ℕ → ℕ → ℕ → State → State
rounds w t zero s = s
rounds w t (suc n) s = round w (t + n) (rounds w t n s)

-- 6.1.2, step 4: a + H0, b + H1, c + H2, d + H3, e + H4
unfoldable pub plus : State → State → State
plus s h =
    record {
      a = add32 s.a h.a;
      b = add32 s.b h.b;
      c = add32 s.c h.c;
      d = add32 s.d h.d;
      e = add32 s.e h.e;
    }

-- 6.1.2: the hash value after a block
unfoldable pub compressed : State → List ℕ → State
compressed h block = plus (rounds (schedule block 80) 0 80 h) h

-- 6.1.2, at the end: H0 ∥ H1 ∥ H2 ∥ H3 ∥ H4
unfoldable pub digest_of : State → List ℕ
digest_of h = bytes32 h.a ++ (bytes32 h.b ++ (bytes32 h.c ++ (bytes32 h.d ++ bytes32 h.e)))

-- how many blocks the digest of a message runs
unfoldable pub blocks : List ℕ → ℕ
blocks m = length (padded m) / 64

-- the digest of a message: its padded blocks (5.1.1), absorbed from the initial value on
unfoldable pub sha1 : List ℕ → List ℕ
sha1 m = digest_of (absorb compressed (blocks m) initial (padded m))
