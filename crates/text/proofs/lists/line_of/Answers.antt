-- What is left of the list has the line with what is left of the number.
use Rattle.std.proofs.Common.{ℕ, ◌+◌, ◌-◌, ◌∙◌, take, sym, ap, arith}
use Rattle.std.proofs.Math.Seq.{take-length}
use Rattle.text.specs.Lists.{line_of}
use Rattle.text.proofs.ListLaws.{line_next, line_here}
use Rattle.text.proofs.lists.line_of.Goals as goal

pub loop-preserved : goal.loop-preserved
loop-preserved c =
    let g = c.args in
    let l = c.loop in
    ap (line_of (g.k - (l.counter + 1))) c.behind_line-rest.ensures ∙ sym (line_next g.k l.counter l.rest.now (omega arith)) ∙ l.invariant

pub returns-in-Some : goal.returns-in-Some
returns-in-Some c =
    let rest = c.loop.rest.now in
    let stop = c.in-Some.ensures in
    ap (λ (n : ℕ). take n rest) stop.0 ∙ line_here (c.args.k - c.loop.counter) rest (omega arith) ∙ c.loop.invariant

pub returns-in-None : goal.returns-in-None
returns-in-None c =
    let rest = c.loop.rest.now in
    let none = c.in-None.ensures in
    sym (take-length rest) ∙ ap (λ (n : ℕ). take n rest) (sym none) ∙ line_here (c.args.k - c.loop.counter) rest (omega arith) ∙ c.loop.invariant
