-- The words so far are the first of the schedule.
use Rattle.std.proofs.Common.{◌≡◌, length, take}
use Rattle.fips180.specs.Sha1.{schedule}
use Rattle.fips180.proofs.block.first_words.Given as goal

abbrev pub invariant-loop-t : goal.invariant-loop-t
invariant-loop-t l = (length l.w ≡ 80) × (take l.t l.w ≡ schedule l.block l.t)
