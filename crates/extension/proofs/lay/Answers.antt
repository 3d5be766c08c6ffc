-- Two patches, one right behind the other, are one of both.
use native.Mathlib.Omega.{arith}
use Rattle.extension.proofs.ReducedLaws.{laid_parts}
use Rattle.extension.proofs.lay.Goals as goal

pub returns : goal.returns
returns c =
    laid_parts c.args.room.now c.args.c.now c.args.cdb c.args.at c.put.new.d c.put-2.new.d c.requires.1 (omega arith)
    c.put.ensures c.put-2.ensures
