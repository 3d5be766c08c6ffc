-- What is put so far are the digits of the bytes so far.
use Rattle.std.proofs.Common.{◌≡◌, length}
use Rattle.wire.specs.Bytes.{patch}
use Rattle.text.specs.Hex.{digits_of}
use Rattle.text.proofs.hex.hex20.Given as goal

abbrev pub invariant-loop-i : goal.invariant-loop-i
invariant-loop-i l = (length l.text ≡ 40) × (l.text ≡ patch l.initial.text 0 (digits_of l.i l.b-items))
