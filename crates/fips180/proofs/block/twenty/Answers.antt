-- Each five begins where the one before it left the schedule.
use Rattle.std.proofs.Common.{arith}
use Rattle.fips180.proofs.Sha1Laws.{begun_at, chain_twenty}
use Rattle.fips180.proofs.block.twenty.Goals as goal

pub returns : goal.returns
returns g c =
    let a = c.args in
    λ b k.
    let e₅ = c.five-s5.ensures b k in
    let e₁₀ = c.five-s10.ensures b e₅.1 in
    let e₁₅ = c.five-s15.ensures b (begun_at e₁₀.1 (omega arith)) in
    let e₂₀ = c.five.ensures b (begun_at e₁₅.1 (omega arith)) in
    (chain_twenty _ a.t a.s _ _ _ _ e₅.0 e₁₀.0 e₁₅.0 e₂₀.0, begun_at e₂₀.1 (omega arith))
