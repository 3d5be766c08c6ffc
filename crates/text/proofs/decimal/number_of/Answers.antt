-- What the digits so far say is at most the bound; more of them say no less.
use Rattle.std.proofs.Common.{length, sym, arith}
use Rattle.text.proofs.DecimalLaws.{decimal_none, decimal_next, exceeds}
use Rattle.text.proofs.decimal.number_of.Goals as goal

pub loop-c-init : goal.loop-c-init
loop-c-init c = (sym (decimal_none c.args.word.now), omega arith)

pub returns-in_err-checked_mul : goal.returns-in_err-checked_mul
returns-in_err-checked_mul c =
    let w = c.args.word.now in
    let l = c.loop-c in
    let over = c.in_err-checked_mul.ensures in
    rw c.from_residual.ensures (exceeds w (length w) l.c-index c.args.most (omega arith) (omega (arith, over, l.invariant.0)))

pub returns-in_err-said : goal.returns-in_err-said
returns-in_err-said c =
    let w = c.args.word.now in
    let l = c.loop-c in
    let ten = c.in_ok-checked_mul.ensures in
    let over = c.in_err-said.ensures in
    rw c.from_residual-in_err-said.ensures
    (exceeds w (length w) l.c-index c.args.most (omega arith) (omega (arith, ten, over, c.value.ensures, c.from.ensures, l.invariant.0)))

pub returns-then-most-said : goal.returns-then-most-said
returns-then-most-said c =
    let w = c.args.word.now in
    let l = c.loop-c in
    let ten = c.in_ok-checked_mul.ensures in
    let sum = c.in_ok-said.ensures in
    exceeds w (length w) l.c-index c.args.most (omega arith) (omega (arith, ten, sum, c.value.ensures, c.from.ensures, l.invariant.0))

pub loop-c-preserved : goal.loop-c-preserved
loop-c-preserved c =
    let l = c.loop-c in
    let ten = c.in_ok-checked_mul.ensures in
    let sum = c.in_ok-said.ensures in
    (omega (arith, ten, sum, c.value.ensures, c.from.ensures, l.invariant.0, decimal_next l.c-index c.args.word.now), omega arith)
