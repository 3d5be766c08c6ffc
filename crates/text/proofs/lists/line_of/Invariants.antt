-- What is left of the list has the line with what is left of the number.
use Rattle.std.proofs.Common.{◌≡◌, ◌-◌}
use Rattle.text.specs.Lists.{line_of}
use Rattle.text.proofs.lists.line_of.Given as goal

abbrev pub invariant-loop : goal.invariant-loop
invariant-loop l = line_of (l.k - l.counter) l.rest ≡ line_of l.k l.list
