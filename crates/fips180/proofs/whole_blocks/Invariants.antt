-- The state has absorbed the blocks so far.
use Rattle.std.proofs.Common.{◌≡◌}
use Rattle.md.specs.Chain.{absorb}
use Rattle.fips180.specs.Sha1.{compressed}
use Rattle.fips180.proofs.whole_blocks.Given as goal

abbrev pub invariant-loop-block : goal.invariant-loop-block
invariant-loop-block l = l.v ≡ absorb compressed l.block-index l.initial.v l.m
