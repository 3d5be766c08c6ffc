-- The constant decides whether zeros are looked for.
use mathlib.Core.Path.{◌∙◌, sym, ap}
use mathlib.Core.Bool.{true, false}
use Rattle.wire.specs.Bytes.{same}
use Rattle.seal.specs.BlankLaws.{blank_where}
use Rattle.seal.proofs.is_blank.Goals as goal

pub returns-then-same : goal.returns-then-same
returns-then-same c =
    c.are_zeros.ensures
    ∙ blank_where _ c.blank_check.result true c.told-rec c.blank_check.ensures
    (sym (c.same.ensures ∙ ap (λ x. same x c.blank_check.result) c.array.ensures) ∙ c.if-same.true)

pub returns-else-same : goal.returns-else-same
returns-else-same c =
    c.if-same.false ∙ blank_where _ c.blank_check.result false c.told-rec c.blank_check.ensures
    (sym (c.same.ensures ∙ ap (λ x. same x c.blank_check.result) c.array.ensures) ∙ c.if-same.false)
