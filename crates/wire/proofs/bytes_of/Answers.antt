-- The last of the word's four bytes.
use Rattle.std.proofs.Common.{◌≡◌, ◌∙◌, ◌+◌, ◌-◌, ap, arith}
use Rattle.wire.specs.Bytes.{part}
use Rattle.wire.proofs.NumberLaws.{bytes_high, bytes_part}
use Rattle.wire.proofs.bytes_of.Goals as goal

pub returns : goal.returns
returns g c =
    let n = g.row.N in
    let whole : 4 - n + n ≡ 4 = omega arith in
    c.array.ensures ∙ ap (part (4 - n) n) (c.to_be_bytes.ensures ∙ bytes_high c.args.x) ∙ rw whole at (bytes_part (4 - n) n c.args.x)
