-- What was found of the digits so far; one more is looked at.
use Rattle.std.proofs.Common.{ℕ, ◌≡◌, length, sym, ap, arith, ◌∙◌}
use Rattle.text.specs.Hex.{all_digits}
use Rattle.text.proofs.HexLaws.{all_none, all_more}
use Rattle.text.proofs.hex.all_digits.Goals as goal

pub loop-c-init : goal.loop-c-init
loop-c-init c = sym (all_none c.args.base c.args.s.now)

pub loop-c-preserved : goal.loop-c-preserved
loop-c-preserved c =
    let l = c.loop-c in
    all_more l.all c.args.base l.c-index c.value.result c.args.s.now l.invariant c.value.ensures

pub returns : goal.returns
returns c =
    let l = c.loop-c in
    let e : l.c-index ≡ length c.args.s.now = omega arith in
    l.invariant ∙ ap (λ (n : ℕ). all_digits c.args.base n c.args.s.now) e
