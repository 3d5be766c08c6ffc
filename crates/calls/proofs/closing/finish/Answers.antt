-- B5h is obeyed, any other command run elsewhere.
use Rattle.std.proofs.Math.Path.{ap}
use Rattle.std.proofs.Common.{◌∙◌}
use borrow.Author.Tests.{ne_eqb, eq-eqb}
use Rattle.judge.specs.declared.facts.Facts.{Facts}
use Rattle.judge.specs.Seen.{seen}
use Rattle.calls.specs.Whole.{made_by, laid}
use Rattle.calls.proofs.CloseLaws.{finishes_out, finishes_run}
use Rattle.calls.proofs.closing.finish.Goals as goal

pub returns-then-facts : goal.returns-then-facts
returns-then-facts c =
    let a = c.args in
    let code = ap (λ (f : Facts). f.code) c.facts-facts.ensures in
    finishes_run a.units.now a.unit a.command.now a.list.now c.requires.1 (ne_eqb _ _ (rw code at c.if-facts.true))

pub returns : goal.returns
returns c =
    let a = c.args in
    let code = ap (λ (f : Facts). f.code) c.facts-facts.ensures in
    let page = ap (λ (f : Facts). laid a.units.now a.unit (made_by (seen a.units.now a.unit) f.page a.list.now)) c.facts-facts.ensures in
    finishes_out a.units.now a.unit a.command.now a.list.now c.requires.1 (eq-eqb _ _ (rw code at c.if-facts.false)) _ (c.obey.ensures ∙ page)
