-- The lowest wrong key is among those not seen yet.
use Rattle.std.proofs.Common.{sym, ◌∙◌, arith}
use Rattle.show.proofs.PartLaws.{wrong_found, wrong_further, wrong_none}
use Rattle.show.proofs.parts.wrong_key.Goals as goal

pub returns-then-key_wrong : goal.returns-then-key_wrong
returns-then-key_wrong c =
    let l = c.loop-v in
    let same = rw c.unwrap-version.ensures at c.new.ensures.same in
    let wrong = rw same at c.key_wrong.ensures in
    (same ∙ sym (wrong_found l.v c.args.rec.now (omega arith) (sym wrong ∙ c.if-key_wrong.true)) ∙ l.invariant, rw same (omega arith))

pub loop-v-preserved : goal.loop-v-preserved
loop-v-preserved c =
    let l = c.loop-v in
    let same = rw c.unwrap-version.ensures at c.new.ensures.same in
    let right = rw same at c.key_wrong.ensures in
    sym (wrong_further l.v c.args.rec.now (omega arith) (sym right ∙ c.if-key_wrong.false)) ∙ l.invariant

pub returns : goal.returns
returns c = let l = c.loop-v in sym l.invariant ∙ wrong_none l.v c.args.rec.now (omega arith)
