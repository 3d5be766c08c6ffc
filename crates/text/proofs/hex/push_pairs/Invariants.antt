-- What is put so far are the bytes of the pairs so far.
use Rattle.std.proofs.Common.{◌≡◌, ◌++◌}
use Rattle.text.specs.Hex.{bytes_in}
use Rattle.text.proofs.hex.push_pairs.Given as goal

abbrev pub invariant-loop-i : goal.invariant-loop-i
invariant-loop-i g l = l.out.items ≡ l.initial.out.items ++ bytes_in l.i l.s
