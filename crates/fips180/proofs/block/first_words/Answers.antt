-- The words so far are the first of the schedule.
use Rattle.std.proofs.Common.{◌≡◌, refl, sym, arith, length-set}
use Rattle.fips180.proofs.Sha1Laws.{schedule_zero, early_stored, begun_none}
use Rattle.fips180.proofs.block.first_words.Goals as goal

pub loop-t-init : goal.loop-t-init
loop-t-init c = (refl, sym (schedule_zero _))

pub loop-t-preserved : goal.loop-t-preserved
loop-t-preserved c =
    let l = c.loop-t in
    (simp length-set l.invariant.0, early_stored _ l.w l.t _ (omega arith) (omega arith) l.invariant.1 c.load.ensures)

pub returns : goal.returns
returns c =
    let l = c.loop-t in
    let e : l.t ≡ 16 = omega arith in
    begun_none l.w _ l.invariant.0 (rw e at l.invariant.1)
