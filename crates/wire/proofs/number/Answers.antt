-- One byte more makes the number 256 times as large, and more by that byte.
use Rattle.std.proofs.Common.{refl, arith, pow-suc, add-one}
use Rattle.wire.specs.Bytes.{number}
use Rattle.wire.proofs.NumberLaws.{number_room}
use Rattle.wire.proofs.number.Goals as goal

pub loop-i-init : goal.loop-i-init
unfolding number
loop-i-init g c = (refl, omega arith)

pub overflow_mul-value : goal.overflow_mul-value
overflow_mul-value g c = omega (arith, number_room c.loop-i.value c.loop-i.i c.loop-i.invariant.1 (omega arith))

pub overflow_add-value : goal.overflow_add-value
overflow_add-value g c = omega (arith, number_room c.loop-i.value c.loop-i.i c.loop-i.invariant.1 (omega arith))

pub loop-i-preserved : goal.loop-i-preserved
unfolding number
loop-i-preserved g c =
    let l = c.loop-i in
    rw (add-one l.i) (rw (l.invariant.0, c.at.ensures) refl, omega (arith, l.invariant.1, pow-suc 256 l.i))
