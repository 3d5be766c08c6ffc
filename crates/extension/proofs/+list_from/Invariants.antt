-- The recursion over what is left of the list: the measure is the bytes from `at` on, which each descriptor makes fewer.
use Rattle.std.proofs.Common.{◌-◌, length}
use Rattle.extension.proofs.+list_from.Given as goal

abbrev pub decreases-list_from : goal.decreases-list_from
decreases-list_from l = length l.c.now - l.at
