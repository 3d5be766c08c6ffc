-- The table holds what the rows give at each of the 256 codes: antt computes that table and compares the two, once.
use borrow.Author.Rules.{rules}
use Rattle.model.specs.Rows.{rows, entry_of}
use Rattle.model.proofs.Table.{table_at}
use Rattle.model.proofs.commands.entry.Goals as goal

pub returns : goal.returns
unfolding entry_of rows
returns c = table_at entry_of 256 c.args.code (search rules)
