-- The end, a list where no more descriptors may come, and a wrong descriptor; one more is found without help.
use Rattle.std.proofs.lemmas.Result.{err_from_is_err_and}
use Rattle.extension.proofs.ListLaws.{ends_there, full_there, breaks_there}
use Rattle.extension.proofs.+list_from.Goals as goal

pub returns-then-c-at : goal.returns-then-c-at
returns-then-c-at t c = ends_there _ _ _ _ c.if-c-at.true

pub returns-then-left-eq0 : goal.returns-then-left-eq0
returns-then-left-eq0 t c = full_there _ _ _ _ c.if-c-at.false c.if-left-eq0.true

pub returns-in_err-read : goal.returns-in_err-read
returns-in_err-read t c =
    let p = err_from_is_err_and c.from_residual.result c.from_residual.ensures.1 in
    rw p.1 (breaks_there c.args.c.now c.args.at c.args.left _ c.if-left-eq0.false c.in_err-read.ensures)
