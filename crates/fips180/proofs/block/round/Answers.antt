-- The word, f t and K t are those of round t.
use Rattle.std.proofs.Common.{◌∙◌, arith}
use Rattle.fips180.specs.Twenty.{RoundsBy}
use Rattle.fips180.proofs.Sha1Laws.{round_turned}
use Rattle.fips180.proofs.block.round.Goals as goal

pub returns : goal.returns
unfolding RoundsBy
returns g c =
    let a = c.args in
    let m = c.requires.rounds a.t (omega arith) (omega arith) in
    λ b k.
    let e = c.word-wt.ensures b k in
    (c.turn.ensures ∙ round_turned _ a.t a.s _ _ _ (m.1 _ _ _ _ c.mix-ft.ensures) m.0 e.0, e.1)
