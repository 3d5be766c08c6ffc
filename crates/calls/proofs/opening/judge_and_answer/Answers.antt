-- The reason, then whether the command carries data out.
use native.Mathlib.Omega.{arith}
use Rattle.std.proofs.Math.Path.{refl, sym, ap}
use Rattle.std.proofs.Common.{◌∙◌}
use Rattle.std.specs.Prelude.{length}
use Rattle.model.specs.Codes.{data_out}
use Rattle.model.proofs.CodeLaws.{legal_small}
use Rattle.model.proofs.ReasonLaws.{reason_named}
use Rattle.judge.specs.declared.facts.Facts.{Facts}
use Rattle.judge.specs.Command.{code_of}
use Rattle.judge.specs.Seen.{seen}
use Rattle.judge.proofs.JudgementLaws.{open_passed}
use Rattle.calls.specs.Outcome.{lent, tables}
use Rattle.calls.specs.Whole.{asked}
use Rattle.calls.proofs.OpenLaws.{judged_refuses, judged_parks, judged_answers}
use Rattle.calls.proofs.WholeLaws.{out_code}
use Rattle.calls.proofs.opening.judge_and_answer.Goals as goal

pub park-requires : goal.park-requires
park-requires c =
    let a = c.args in
    let p = open_passed (seen a.units.now a.unit.0) a.command.now a.token.now a.clock (sym c.in-Ok.ensures.reason) in
    let small = legal_small (code_of a.command.now) (length a.command.now) p.legal in
    (rw c.bytes.ensures (omega arith), c.requires)

pub answer-requires : goal.answer-requires
answer-requires c =
    let a = c.args in
    let p = open_passed (seen a.units.now a.unit.0) a.command.now a.token.now a.clock (sym c.in-Ok.ensures.reason) in
    let carries = c.data_out.ensures ∙ ap (λ (f : Facts). data_out f.code) c.facts.ensures in
    (rw c.in-Ok.ensures.unit p.used, out_code (code_of a.command.now) (sym carries ∙ c.if-data_out.false))

pub returns-in-Err : goal.returns-in-Err
returns-in-Err c =
    let a = c.args in
    let l = lent (tables a.units.now a.slots.now) a.reply.now in
    let k = asked a.unit.0 a.command.now a.token.now in
    judged_refuses l k a.clock _ c.in-Err.ensures.reason (reason_named c.in-Err.reason) _ c.from.ensures

pub returns-then-data_out : goal.returns-then-data_out
returns-then-data_out c =
    let a = c.args in
    let l = lent (tables a.units.now a.slots.now) a.reply.now in
    let k = asked a.unit.0 a.command.now a.token.now in
    let carries = c.data_out.ensures ∙ ap (λ (f : Facts). data_out f.code) c.facts.ensures in
    judged_parks l k a.clock _ c.in-Ok.ensures.reason refl _ carries c.if-data_out.true c.park.result _ (rw c.bytes.ensures at c.park.ensures)

pub returns-else-data_out : goal.returns-else-data_out
returns-else-data_out c =
    let a = c.args in
    let l = lent (tables a.units.now a.slots.now) a.reply.now in
    let k = asked a.unit.0 a.command.now a.token.now in
    let carries = c.data_out.ensures ∙ ap (λ (f : Facts). data_out f.code) c.facts.ensures in
    judged_answers l k a.clock _ c.in-Ok.ensures.reason refl _ carries c.if-data_out.false c.answer.result _ (rw c.in-Ok.ensures.unit at c.answer.ensures)
