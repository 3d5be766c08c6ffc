-- What is put so far are the digits of the bytes so far.
use Rattle.std.proofs.Common.{◌≡◌, ◌++◌}
use Rattle.text.specs.Hex.{digits_of}
use Rattle.text.proofs.hex.put_hex.Given as goal

abbrev pub invariant-loop-b : goal.invariant-loop-b
invariant-loop-b g l = l.out.bytes ≡ l.initial.out.bytes ++ digits_of l.b-index l.s
