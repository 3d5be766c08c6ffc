-- With a carriage return at its end, empty, or without.
use Rattle.std.proofs.Common.{arith}
use Rattle.text.proofs.WordLaws.{return_empty, return_there, return_none}
use Rattle.text.proofs.words.without_return.Goals as goal

pub returns-in-13 : goal.returns-in-13
returns-in-13 c = return_there c.args.line.now (omega arith) (omega arith)

pub returns-in_default : goal.returns-in_default
returns-in_default c = return_empty c.args.line.now (omega arith)

pub returns-in_default-2 : goal.returns-in_default-2
returns-in_default-2 c = return_none c.args.line.now (λ e. omega arith)
