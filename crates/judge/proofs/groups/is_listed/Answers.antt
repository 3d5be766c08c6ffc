-- The law at the command's own page.
use native.Mathlib.Omega.{arith}
use Rattle.std.proofs.lemmas.Grind.{common_steps}
use Rattle.model.proofs.RowLaws.{listed_by_need}
use Rattle.judge.specs.Command.{code_of, page_of, need_for}
use Rattle.judge.proofs.groups.is_listed.Goals as goal

pub returns-then-by_page : goal.returns-then-by_page
unfolding need_for
returns-then-by_page c =
    let law = listed_by_need (code_of c.args.command.now) (page_of c.args.command.now) in
    grind (arith, common_steps)

pub returns-else-by_page : goal.returns-else-by_page
unfolding need_for
returns-else-by_page c =
    let law = listed_by_need (code_of c.args.command.now) (page_of c.args.command.now) in
    grind (arith, common_steps)
