-- Each round begins where the one before it left the schedule.
use Rattle.std.proofs.Common.{arith}
use Rattle.fips180.proofs.Sha1Laws.{begun_at, chain_five}
use Rattle.fips180.proofs.block.five.Goals as goal

pub returns : goal.returns
returns g c =
    let a = c.args in
    λ b k.
    let e₁ = c.round-s1.ensures b k in
    let e₂ = c.round-s2.ensures b e₁.1 in
    let e₃ = c.round-s3.ensures b (begun_at e₂.1 (omega arith)) in
    let e₄ = c.round-s4.ensures b (begun_at e₃.1 (omega arith)) in
    let e₅ = c.round.ensures b (begun_at e₄.1 (omega arith)) in
    (chain_five _ a.t a.s _ _ _ _ _ e₁.0 e₂.0 e₃.0 e₄.0 e₅.0, begun_at e₅.1 (omega arith))
