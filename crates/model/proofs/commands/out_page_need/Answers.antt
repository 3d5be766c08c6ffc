-- Each arm's page picks its row of B5h; a page of no arm picks none.
use Rattle.model.specs.Rows.{rows, need_of}
use native.Mathlib.Omega.{arith}
use Rattle.std.proofs.lemmas.Grind.{common_steps}
use Rattle.model.proofs.commands.out_page_need.Goals as goal

pub returns-in-17 : goal.returns-in-17
unfolding need_of rows
returns-in-17 c = rw c.in-17.is

pub returns-in-18 : goal.returns-in-18
unfolding need_of rows
returns-in-18 c = rw c.in-18.is

pub returns-in-20 : goal.returns-in-20
unfolding need_of rows
returns-in-20 c = rw c.in-20.is

pub returns-in-21 : goal.returns-in-21
unfolding need_of rows
returns-in-21 c = rw c.in-21.is

pub returns-in_default : goal.returns-in_default
unfolding need_of rows
returns-in_default c = grind (arith, common_steps)
