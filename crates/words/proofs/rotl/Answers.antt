-- The library's rotation is the standard's.
use Rattle.std.proofs.Common.{◌≡◌, ◌∙◌, ◌-◌, ◌*◌, ◌/◌, ◌%◌, ◌^◌, bit_or, arith}
use Rattle.words.specs.BitLaws.{rotl_is}
use Rattle.words.proofs.rotl.Goals as goal

pub returns : goal.returns
returns c =
    let n = c.args.n in
    let x = c.args.x in
    let left : n % 32 ≡ n = omega arith in
    let right : (32 - n) % 32 ≡ 32 - n = omega arith in
    let turned : c.rotate_left.result ≡ bit_or ((x * 2 ^ (n % 32)) % 2 ^ 32) (x / 2 ^ ((32 - n % 32) % 32)) = c.rotate_left.ensures in
    rw (left, right) at turned ∙ rotl_is n x c.ranges.x.fits
