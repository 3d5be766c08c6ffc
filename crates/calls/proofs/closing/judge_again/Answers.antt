-- Unit, command and token are those that the slot holds.
use Rattle.std.proofs.Math.Path.{refl, sym, ap}
use Rattle.std.proofs.Common.{◌∙◌}
use Rattle.std.specs.Prelude.{ℕ, List}
use Rattle.model.specs.Codes.{data_out}
use Rattle.model.proofs.ReasonLaws.{reason_named}
use Rattle.judge.specs.Command.{code_of}
use Rattle.judge.specs.Seen.{seen}
use Rattle.judge.proofs.JudgementLaws.{open_passed}
use Rattle.calls.specs.Close.{held_by}
use Rattle.calls.proofs.WholeLaws.{close_none, list_passed, not_replied, held_code}
use Rattle.calls.proofs.CloseLaws.{held_reason, held_passed, whole_passed, whole_refused}
use Rattle.calls.proofs.closing.judge_again.Goals as goal

pub finish-requires : goal.finish-requires
finish-requires c =
    let a = c.args in
    let s = seen a.units.now c.unit_of-unit.result.0 in
    let command = c.new-command.result in
    let token = c.token_of-token.result.now in
    let none = sym c.in-Ok.ensures.reason in
    let p = open_passed s command token a.clock (close_none s command token a.list.now a.clock none).0 in
    let held = c.new-command.ensures ∙ c.command_of.ensures in
    let carries = ap (λ (x : List ℕ). data_out (code_of x)) held ∙ held_code a.held.rec.now c.args.held.open in
    (rw c.in-Ok.ensures.unit p.used, not_replied command carries, λ t. list_passed s command token a.list.now a.clock none t)

pub returns-in-Ok : goal.returns-in-Ok
returns-in-Ok c =
    let a = c.args in
    let held = c.new-command.ensures ∙ c.command_of.ensures in
    let r = held_reason a.units.now a.held.rec.now a.list.now a.clock _ _ _ c.unit_of-unit.ensures held c.token_of-token.ensures _ c.in-Ok.ensures.reason in
    let o = held_passed a.units.now a.held.rec.now a.list.now a.clock _ _ _ c.unit_of-unit.ensures held c.token_of-token.ensures _ (rw c.in-Ok.ensures.unit at c.finish.ensures) in
    whole_passed a.units.now (held_by a.held.rec.now) a.list.now a.clock _ r refl _ o

pub returns-in-Err : goal.returns-in-Err
returns-in-Err c =
    let a = c.args in
    let held = c.new-command.ensures ∙ c.command_of.ensures in
    let r = held_reason a.units.now a.held.rec.now a.list.now a.clock _ _ _ c.unit_of-unit.ensures held c.token_of-token.ensures _ c.in-Err.ensures.reason in
    whole_refused a.units.now (held_by a.held.rec.now) a.list.now a.clock _ r (reason_named c.in-Err.reason) _ c.from.ensures
