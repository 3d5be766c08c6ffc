-- A block more is absorbed; at the end all that the message has are.
use Rattle.std.proofs.Common.{◌∙◌, ◌/◌, ℕ, List, [], sym, ap, ap₂, arith, length, get_or}
use Rattle.md.proofs.ChainLaws.{absorb_zero, absorb_last, chunk_at}
use Rattle.fips180.specs.Sha1.{compressed}
use Rattle.fips180.proofs.whole_blocks.Goals as goal

pub loop-block-init : goal.loop-block-init
loop-block-init c = sym (absorb_zero compressed _ _)

pub loop-block-preserved : goal.loop-block-preserved
loop-block-preserved c =
    let m = c.args.m.now in
    let i = c.loop-block.block-index in
    c.compress-v.ensures
    ∙ ap₂ compressed c.loop-block.invariant
    (ap (λ (l : List (List ℕ)). get_or l i []) c.as_chunks.ensures.front
    ∙ chunk_at (length m / 64) i m [] (omega (arith, c.as_chunks.ensures.front_len)))
    ∙ sym (absorb_last compressed i c.args.h m)
