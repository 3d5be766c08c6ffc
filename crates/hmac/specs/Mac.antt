-- A running HMAC: two running hashes, over any hash h, any running state R and any relation Holds r m, "r has taken in m".
use Rattle.std.specs.Prelude.{ℕ, ◌≡◌, List}
use Rattle.hmac.specs.Hmac.{Hash, opad, key_block, masked, inner_text, by_sha1}
use Rattle.fips180.specs.Running.{Holds}
use Rattle.hmac.specs.declared.Mac.{Mac}

module _ (h : Hash) {R : Type 0} (Holds : R → List ℕ → Type 0) where
  -- the inner hash has taken in the masked key and then m, the outer one the masked key
  pub record Passes (inner outer : R) (k m : List ℕ) : Type 0 where
    pub inside : Holds inner (inner_text h k m)
    pub outside : Holds outer (masked opad (key_block h k))

  -- d is the digest of whatever r has taken in
  abbrev pub Finishes : R → List ℕ → Type 0
  Finishes r d = (m : List ℕ) → Holds r m → d ≡ h.digest m

-- the running HMAC r under the key k has taken in m
abbrev pub MacHolds : List ℕ → Mac → List ℕ → Type 0
MacHolds k r m = Passes by_sha1 Holds r.inner r.outer k m
