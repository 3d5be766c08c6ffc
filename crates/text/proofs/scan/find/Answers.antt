-- The byte stands at none of the places so far, and so at the first that has it, or at no place.
use Rattle.std.proofs.Common.{ℕ, ◌≡◌, ◌<◌, length, get_or, arith}
use Rattle.text.proofs.ScanLaws.{index_none, index_found, none_next}
use Rattle.text.proofs.scan.find.Goals as goal

pub loop-i-init : goal.loop-i-init
loop-i-init c = λ k h e. absurd (omega arith)

pub returns-then-s-i : goal.returns-then-s-i
returns-then-s-i c =
    let s = c.args.s.now in
    let within : c.loop-i.i < length s = omega arith in
    (index_found c.args.c s c.loop-i.i within c.if-s-i.true c.loop-i.invariant, within)

pub loop-i-preserved : goal.loop-i-preserved
loop-i-preserved c = none_next c.args.c c.args.s.now c.loop-i.i c.loop-i.invariant c.if-s-i.false

pub returns : goal.returns
returns c =
    let s = c.args.s.now in
    index_none c.args.c s (λ k h e. c.loop-i.invariant k (omega arith) e)
