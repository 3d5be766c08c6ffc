-- The tests of the lengths and the slot, then the command, then the slot is free.
use Rattle.std.proofs.Math.Path.{refl, sym}
use Rattle.calls.specs.Outcome.{lent, tables}
use Rattle.calls.proofs.OutcomeLaws.{units_wrong, slots_wrong, reply_wrong, none_wrong}
use Rattle.calls.proofs.CloseLaws.{holds_open, close_h1, close_h3, close_held}
use Rattle.calls.proofs.closing.close.Goals as goal

pub returns-in_default : goal.returns-in_default
returns-in_default c =
    let a = c.args in
    let l = lent (tables a.units.now a.slots.now) a.reply.now in
    close_h1 l a.slot.0 a.list.now a.clock _ (units_wrong _ _ _ c.in_default.ensures.cases) refl

pub returns-in_default-as_mut_array : goal.returns-in_default-as_mut_array
returns-in_default-as_mut_array c =
    let a = c.args in
    let l = lent (tables a.units.now a.slots.now) a.reply.now in
    let u = c.in-Some.ensures.cases in
    rw u.same (close_h1 l a.slot.0 a.list.now a.clock _ (slots_wrong _ _ _ u.long c.in_default-as_mut_array.ensures.cases) refl)

pub returns-then-reply-ne512 : goal.returns-then-reply-ne512
returns-then-reply-ne512 c =
    let a = c.args in
    let l = lent (tables a.units.now a.slots.now) a.reply.now in
    let u = c.in-Some.ensures.cases in
    let s = c.in-Some-as_mut_array.ensures.cases in
    rw (u.same, s.same) (close_h1 l a.slot.0 a.list.now a.clock _ (reply_wrong _ _ _ u.long s.long c.if-reply-ne512.true) refl)

pub returns-in_default-held : goal.returns-in_default-held
returns-in_default-held c =
    let a = c.args in
    let l = lent (tables a.units.now a.slots.now) a.reply.now in
    let u = c.in-Some.ensures.cases in
    let s = c.in-Some-as_mut_array.ensures.cases in
    let right = none_wrong _ _ _ u.long s.long c.if-reply-ne512.false in
    rw (u.same, s.same) (close_h3 l a.slot.0 a.list.now a.clock _ right refl _ (rw s.same at c.in_default-held.ensures.held) refl)

pub invariant_of-judge_again : goal.invariant_of-judge_again
invariant_of-judge_again c =
    let h = c.in-Some-held.ensures in
    record { «open» = rw (c.record_of-rec.ensures, h.same) (holds_open _ c.args.slot.0 (sym h.held)).1 }

pub returns : goal.returns
returns c =
    let a = c.args in
    let l = lent (tables a.units.now a.slots.now) a.reply.now in
    let u = c.in-Some.ensures.cases in
    let s = c.in-Some-as_mut_array.ensures.cases in
    let h = c.in-Some-held.ensures in
    let right = none_wrong _ _ _ u.long s.long c.if-reply-ne512.false in
    let judged = rw (u.same, c.record_of-rec.ensures, h.same, s.same) at c.judge_again-answer.ensures in
    rw (c.free.ensures, h.same, s.same)
    (close_held l a.slot.0 a.list.now a.clock _ right refl _ (rw s.same at h.held) refl c.judge_again-answer.result _ judged)
