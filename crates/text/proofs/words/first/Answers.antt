-- The byte here is what is looked for.
use Rattle.std.proofs.Common.{sym, ◌∙◌, arith}
use Rattle.text.proofs.WordLaws.{same_truth, search_finds}
use Rattle.text.proofs.words.first.Goals as goal

pub returns-then-is_gap-gap : goal.returns-then-is_gap-gap
returns-then-is_gap-gap c =
    let g = c.args in
    search_finds g.gap g.at g.line.now c.loop-i.i c.loop-i.invariant (omega arith)
    (sym c.is_gap.ensures ∙ same_truth c.is_gap.result g.gap c.if-is_gap-gap.true)
