-- One of the block's own words stands there; a later one is mixed from four before it.
use mathlib.Core.Path.{◌∙◌, ap}
use Rattle.words.specs.Words.{rotl}
use Rattle.fips180.specs.Sha1.{mixed}
use Rattle.fips180.proofs.Sha1Laws.{early_word, late_word}
use Rattle.fips180.proofs.block.word.Goals as goal

pub returns-then-t-lt16 : goal.returns-then-t-lt16
returns-then-t-lt16 c = λ b k. early_word _ b c.args.t k c.if-t-lt16.true

pub returns : goal.returns
unfolding mixed
returns c =
    λ b k. late_word _ b c.args.t _ c.requires c.if-t-lt16.false k (c.rotl-late.ensures ∙ ap (rotl 1) c.xor4-mixed.ensures)
