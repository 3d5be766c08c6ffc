-- What the code of a block asks of the function and the constant that it is passed for a run of rounds.
use Rattle.std.specs.Prelude.{ℕ, ◌≡◌, ◌≤◌, ◌<◌}
use Rattle.fips180.specs.Sha1.{f, K}

-- in the rounds from t up to u, K t is k, and f t is what the function gives, where `gives x y z r` says that it may answer r
unfoldable pub RoundsBy : (ℕ → ℕ → ℕ → ℕ → Type 0) → ℕ → ℕ → ℕ → Type 0
RoundsBy gives k t u = (i : ℕ) → t ≤ i → i < u → (k ≡ K i) × ((x y z r : ℕ) → gives x y z r → r ≡ f i x y z)
