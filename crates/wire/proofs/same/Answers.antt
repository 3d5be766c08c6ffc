-- The or of the differences so far is zero exactly where the bytes so far are the same.
use Rattle.std.proofs.Common.{rules, arith, ap, length, length-append, eq-eqb, eqb-true}
use Rattle.std.proofs.lemmas.Slice.Zip.{zip_turn, zip_end}
use Rattle.wire.proofs.SameLaws.{differs_more, differs_done, same_is}
use Rattle.wire.proofs.same.Goals as goal

pub loop-x-preserved : goal.loop-x-preserved
loop-x-preserved c =
    let z = zip_turn c.args.s.now c.args.t.now c.loop-x.yielded _ c.loop-x.x-iterator c.next.new.self _ (search rules) (search rules) c.loop-x.yielded_by (c.in-Some.x, c.in-Some.y) c.in-Some.is c.next.ensures.steps in
    rw (length-append c.loop-x.yielded _, z.2 0, z.3 0)
    (differs_more c.args.s.now c.args.t.now (length c.loop-x.yielded) c.loop-x.different z.0 z.1 c.loop-x.invariant)

pub returns-then-s-t : goal.returns-then-s-t
returns-then-s-t c =
    let n = zip_end c.args.s.now c.args.t.now c.loop-x.yielded _ c.loop-x.x-iterator c.next.new.self _ (search rules) (search rules) c.loop-x.yielded_by c.in-None.is c.next.ensures.steps in
    differs_done c.args.s.now c.args.t.now (length c.loop-x.yielded) c.loop-x.different (omega arith) (omega arith) c.loop-x.invariant

pub returns-else-s-t : goal.returns-else-s-t
returns-else-s-t c =
    same_is _ c.args.s.now c.args.t.now (λ e. absurd (c.if-s-t.false (eqb-true _ _ e))) (λ e. eq-eqb _ _ (ap length e))
