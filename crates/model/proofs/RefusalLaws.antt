-- The reasons of a capability, 7 to 15, have one sense.
use Rattle.std.specs.Prelude.{◌≡◌, ℕ, ◌≤◌}
use Rattle.std.proofs.Common.{arith, ne_eqb}
use Rattle.model.specs.Refusal.{sense_key, additional_code}

pub capability_sense : (r : ℕ) → 7 ≤ r → r ≤ 15 → (sense_key r ≡ 0x5) × (additional_code r ≡ 0x24)
unfolding sense_key additional_code
capability_sense r low high = (
  rw (ne_eqb r 0x1b (λ e. omega arith)),
  rw (
    ne_eqb r 1 (λ e. omega arith),
    ne_eqb r 0x1b (λ e. omega arith),
    ne_eqb r 2 (λ e. omega arith),
    ne_eqb r 16 (λ e. omega arith),
    ne_eqb r 18 (λ e. omega arith),
    ne_eqb r 19 (λ e. omega arith),
  ),
)
