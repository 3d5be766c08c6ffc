-- The numbers, the identifier, the keys, whose keys, the check.
use mathlib.Core.Path.{◌≡◌}
use lib.ListN.{length}
use borrow.Author.Rules.{rules}
use Rattle.units.proofs.RoundLaws.{built_steps}
use Rattle.units.proofs.fields.write_built.Goals as goal

pub returns : goal.returns
returns c =
    let g = c.args.build in
    let identifier : length g.identifier ≡ 16 = search rules in
    let auth : length g.auth_key ≡ 20 = search rules in
    let generation : length g.gen_key ≡ 20 = search rules in
    let made = built_steps g.unit.0 g.method g.tag _ _ _ g.keeper _ _ _ _ _ identifier auth generation
    c.write_numbers.ensures c.put.ensures c.set_own_pair.ensures (rw c.bytes_of.ensures at c.put-2.ensures) c.seal_record.ensures in
    record { built = made; whole = c.seal_record.array_long }
