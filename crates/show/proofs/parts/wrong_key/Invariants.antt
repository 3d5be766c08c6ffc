-- The lowest wrong key is among those not seen yet.
use Rattle.std.proofs.Common.{◌≡◌, ◌-◌}
use Rattle.show.specs.Parts.{wrong_key}
use Rattle.show.proofs.parts.wrong_key.Given as goal

abbrev pub invariant-loop-v : goal.invariant-loop-v
invariant-loop-v l = wrong_key (16 - l.v) l.v l.rec ≡ wrong_key 16 0 l.rec
