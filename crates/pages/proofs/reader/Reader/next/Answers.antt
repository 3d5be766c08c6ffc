-- A number of up to four bytes fits 32 bits.
use Rattle.std.proofs.Common.{◌≤◌, ◌^◌, arith}
use Rattle.std.proofs.Math.Nat.{pow-le-pow_right}
use Rattle.pages.proofs.reader.Reader.next.Goals as goal

pub overflow_cast-x : goal.overflow_cast-x
overflow_cast-x g c =
    let most : 256 ^ g.row.N ≤ 256 ^ 4 = pow-le-pow_right {n = 256} (omega arith) {i = g.row.N} {j = 4} (omega arith) in
    omega arith
