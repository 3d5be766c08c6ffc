-- The tests of the lengths, then the judgement.
use Rattle.std.proofs.Math.Path.{refl, sym}
use Rattle.slots.proofs.SlotLaws.{token_is}
use Rattle.calls.specs.Outcome.{lent, tables}
use Rattle.calls.specs.Whole.{asked}
use Rattle.calls.proofs.OutcomeLaws.{units_wrong, slots_wrong, reply_wrong, none_wrong}
use Rattle.calls.proofs.OpenLaws.{open_h1, open_h2, open_judged}
use Rattle.calls.proofs.opening.open.Goals as goal

pub returns-in_default : goal.returns-in_default
returns-in_default c =
    let a = c.args in
    let l = lent (tables a.units.now a.slots.now) a.reply.now in
    let k = asked a.unit.0 a.command.now a.token.now in
    open_h1 l k a.clock _ (units_wrong _ _ _ c.in_default.ensures.cases) refl

pub returns-in_default-as_mut_array : goal.returns-in_default-as_mut_array
returns-in_default-as_mut_array c =
    let a = c.args in
    let l = lent (tables a.units.now a.slots.now) a.reply.now in
    let k = asked a.unit.0 a.command.now a.token.now in
    open_h1 l k a.clock _ (slots_wrong _ _ _ c.in-Some.ensures.cases.long c.in_default-as_mut_array.ensures.cases) refl

pub returns-in_default-as_mut_array-2 : goal.returns-in_default-as_mut_array-2
returns-in_default-as_mut_array-2 c =
    let a = c.args in
    let l = lent (tables a.units.now a.slots.now) a.reply.now in
    let k = asked a.unit.0 a.command.now a.token.now in
    let s = c.in-Some-as_mut_array.ensures.cases in
    rw s.same (open_h1 l k a.clock _ (reply_wrong _ _ _ c.in-Some.ensures.cases.long s.long c.in_default-as_mut_array-2.ensures.cases) refl)

pub returns-then-not-right_token : goal.returns-then-not-right_token
returns-then-not-right_token c =
    let a = c.args in
    let l = lent (tables a.units.now a.slots.now) a.reply.now in
    let k = asked a.unit.0 a.command.now a.token.now in
    let s = c.in-Some-as_mut_array.ensures.cases in
    let r = c.in-Some-as_mut_array-2.ensures.cases in
    let right = none_wrong _ _ _ c.in-Some.ensures.cases.long s.long r.long in
    rw (s.same, r.same) (open_h2 l k a.clock _ right refl _ c.if-not-right_token.ensures refl)

pub judge_and_answer-answer-requires : goal.judge_and_answer-answer-requires
judge_and_answer-answer-requires c = (token_is _ (sym c.if-not-right_token.ensures)).1

pub returns : goal.returns
returns c =
    let a = c.args in
    let l = lent (tables a.units.now a.slots.now) a.reply.now in
    let k = asked a.unit.0 a.command.now a.token.now in
    let u = c.in-Some.ensures.cases in
    let s = c.in-Some-as_mut_array.ensures.cases in
    let r = c.in-Some-as_mut_array-2.ensures.cases in
    let right = none_wrong _ _ _ u.long s.long r.long in
    open_judged l k a.clock _ right refl _ c.if-not-right_token.ensures refl _
    (rw (u.same, s.same, r.same, c.new-command.ensures) at c.judge_and_answer-answer.ensures)
