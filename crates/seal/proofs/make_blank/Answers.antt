-- Zeros, and the constant behind them.
use mathlib.Core.Path.{◌∙◌, ap}
use Prim.Native.Nat.{ℕ}
use lib.ListN.{replicate}
use Rattle.wire.specs.Bytes.{patch}
use Rattle.seal.specs.BlankLaws.{blank_made}
use Rattle.seal.proofs.make_blank.Goals as goal

pub returns : goal.returns
returns c =
    c.put.ensures ∙ ap (patch _ 492) c.blank_check.ensures
    ∙ blank_made _ (c.fill.ensures.after (λ y h. h) ∙ ap (λ (n : ℕ). replicate n 0) c.told-rec)
