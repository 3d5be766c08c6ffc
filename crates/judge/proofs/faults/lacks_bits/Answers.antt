-- The machine's AND is that of the bits.
use mathlib.Core.Path.{sym, ap}
use mathlib.Core.Bool.{not}
use Prim.Native.Nat.{ℕ}
use lib.Dec.{eqb}
use Rattle.judge.proofs.FaultLaws.{and_bytes}
use Rattle.judge.specs.Faults.{lacks_bits}
use Rattle.judge.proofs.faults.lacks_bits.Goals as goal

pub returns : goal.returns
unfolding lacks_bits
returns c =
    let a = c.args in
    ap (λ (n : ℕ). not (eqb n a.needed)) (sym (and_bytes a.needed a.permissions c.ranges.needed.fits c.ranges.permissions.fits))
