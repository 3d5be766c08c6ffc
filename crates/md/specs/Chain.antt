-- Merkle and Damgård's construction over blocks of 64 bytes: over any state S and any compression function f. docs/RULES.md, 8.1.
use Rattle.std.specs.Prelude.{ℕ, zero, suc, ◌*◌, ◌/◌, ◌%◌, ◌^◌, ◌≡◌, List, length, take, drop}

module _ {S : Type 0} (f : S → List ℕ → S) where
  -- the state after the first n blocks of a message, from the state s on
  unfoldable pub absorb : ℕ → S → List ℕ → S
  absorb zero s m = s
  absorb (suc n) s m = absorb n (f s (take 64 m)) (drop 64 m)

  -- a state, a buffer and a count of bytes that have taken in the message m, from the state s₀ on
  pub record Taken (s₀ state : S) (buffer : List ℕ) (total : ℕ) (m : List ℕ) : Type 0 where
    -- the count is the message's length
    pub count : total ≡ length m % 2 ^ 64
    -- the state has absorbed the whole blocks of the message
    pub whole : state ≡ absorb (length m / 64) s₀ m
    -- the buffer starts with the rest of it
    pub rest : take (length m % 64) buffer ≡ drop (length m / 64 * 64) m
