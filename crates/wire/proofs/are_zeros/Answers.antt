-- The or of the bytes so far and the zeros that are left decide together; at the end none are left.
use Rattle.std.proofs.Common.{◌∙◌, ◌-◌, List, ℕ, length, take, drop, inl, arith}
use Rattle.wire.proofs.ZeroLaws.{zeros_more, zeros_done, zeros_lent}
use Rattle.wire.proofs.are_zeros.Goals as goal

pub loop-x-preserved : goal.loop-x-preserved
loop-x-preserved c =
    let items : List ℕ = take (c.min-end.result - c.min.result) (drop c.min.result c.args.s.now) in
    zeros_more c.loop-x.any c.loop-x.x-index (length items) items (omega arith) ∙ c.loop-x.invariant

pub returns : goal.returns
returns c =
    let items : List ℕ = take (c.min-end.result - c.min.result) (drop c.min.result c.args.s.now) in
    zeros_done c.loop-x.any c.loop-x.x-index (length items) items (inl (omega arith)) ∙ c.loop-x.invariant
    ∙ zeros_lent c.args.n c.args.a c.min.result c.min-end.result c.args.s.now c.min.ensures c.min-end.ensures
