-- A page is replied, cut to its allocation length; the rest is run.
use Rattle.std.proofs.Math.Path.{ap}
use Rattle.std.proofs.Common.{◌∙◌}
use Rattle.std.specs.Prelude.{length}
use Rattle.wire.specs.Bytes.{patch}
use Rattle.judge.specs.Seen.{seen}
use Rattle.calls.proofs.OpenLaws.{reply_asked, answers_page, answers_run}
use Rattle.calls.proofs.opening.answer.Goals as goal

pub returns-then-not-is_replied : goal.returns-then-not-is_replied
returns-then-not-is_replied c =
    let a = c.args in
    answers_run a.reply.now (seen a.units.now a.unit) a.command.now c.requires.1 _ c.is_replied.ensures c.if-not-is_replied.true

pub returns : goal.returns
returns c =
    let a = c.args in
    let s = seen a.units.now a.unit in
    let asked_for = reply_asked s a.command.now _ _ _ _ c.facts-page.ensures (rw c.bytes.ensures at c.number-allocation.ensures.value) c.records_of.ensures.0 c.records_of.ensures.1 in
    answers_page a.reply.now s a.command.now c.requires.1 _ c.is_replied.ensures c.if-not-is_replied.false _ _ (c.reply.ensures.0 ∙ ap length asked_for)
    (c.reply.ensures.1 ∙ ap (patch a.reply.now 0) asked_for)
