-- The entry tells what the rows say of the code (`need_by_entry`); where it is 2, the page does.
use mathlib.Core.Path.{sym, ◌∙◌}
use Rattle.model.proofs.RowLaws.{need_by_entry, entry_by_page}
use native.Mathlib.Omega.{arith}
use Rattle.std.proofs.lemmas.Grind.{common_steps}
use Rattle.model.proofs.commands.need_of.Goals as goal

pub page_need-requires : goal.page_need-requires
page_need-requires c = entry_by_page _ (sym c.entry-e.ensures ∙ c.in-2.is)

pub returns-in-0 : goal.returns-in-0
returns-in-0 c = rw (need_by_entry, ← c.entry-e.ensures, c.in-0.is)

pub returns-in-1 : goal.returns-in-1
returns-in-1 c = rw (need_by_entry, ← c.entry-e.ensures, c.in-1.is)

pub returns-in-2 : goal.returns-in-2
returns-in-2 c = c.page_need.ensures

pub returns-in_default : goal.returns-in_default
returns-in_default c = rw (need_by_entry, ← c.entry-e.ensures) (grind (arith, common_steps))
