-- Each arm's page picks its row of A2h; a page of no arm picks none.
use Rattle.model.specs.Rows.{rows, need_of}
use native.Mathlib.Omega.{arith}
use Rattle.std.proofs.lemmas.Grind.{common_steps}
use Rattle.model.proofs.commands.in_page_need.Goals as goal

pub returns-in-0 : goal.returns-in-0
unfolding need_of rows
returns-in-0 c = rw c.in-0.is

pub returns-in-1 : goal.returns-in-1
unfolding need_of rows
returns-in-1 c = rw c.in-1.is

pub returns-in-16 : goal.returns-in-16
unfolding need_of rows
returns-in-16 c = rw c.in-16.is

pub returns-in-19 : goal.returns-in-19
unfolding need_of rows
returns-in-19 c = rw c.in-19.is

pub returns-in-17 : goal.returns-in-17
unfolding need_of rows
returns-in-17 c = rw c.in-17.is

pub returns-in-18 : goal.returns-in-18
unfolding need_of rows
returns-in-18 c = rw c.in-18.is

pub returns-in_default : goal.returns-in_default
unfolding need_of rows
returns-in_default c = grind (arith, common_steps)
