-- Four twenties over the schedule of the block, each with the function and the constant of its range.
use Rattle.std.proofs.Common.{◌∙◌, sym}
use Rattle.fips180.specs.Twenty.{RoundsBy}
use Rattle.fips180.proofs.Sha1Laws.{f_first, f_second, f_third, f_fourth, K_first, K_second, K_third, K_fourth, chain_eighty}
use Rattle.fips180.proofs.block.compress.Goals as goal

pub twenty-v0-requires-clause-rounds : goal.twenty-v0-requires-clause-rounds
unfolding RoundsBy
twenty-v0-requires-clause-rounds c = λ i g h. (sym (K_first i h), λ x y z r e. e ∙ sym (f_first i x y z h))

pub twenty-v1-requires-clause-rounds : goal.twenty-v1-requires-clause-rounds
unfolding RoundsBy
twenty-v1-requires-clause-rounds c = λ i g h. (sym (K_second i g h), λ x y z r e. e ∙ sym (f_second i x y z g h))

pub twenty-v2-requires-clause-rounds : goal.twenty-v2-requires-clause-rounds
unfolding RoundsBy
twenty-v2-requires-clause-rounds c = λ i g h. (sym (K_third i g h), λ x y z r e. e ∙ sym (f_third i x y z g h))

pub twenty-v3-requires-clause-rounds : goal.twenty-v3-requires-clause-rounds
unfolding RoundsBy
twenty-v3-requires-clause-rounds c = λ i g h. (sym (K_fourth i g), λ x y z r e. e ∙ sym (f_fourth i x y z g))

pub returns : goal.returns
returns c =
    let b = c.args.block.now in
    let e₀ = c.twenty-v0.ensures b c.first_words-w.ensures in
    let e₁ = c.twenty-v1.ensures b e₀.1 in
    let e₂ = c.twenty-v2.ensures b e₁.1 in
    let e₃ = c.twenty-v3.ensures b e₂.1 in
    chain_eighty b _ _ _ _ _ _ e₀.0 e₁.0 e₂.0 e₃.0 c.sum.ensures
