-- The sixteen bytes, copied, and the last one flipped.
use Rattle.std.proofs.Common.{◌∙◌, arith}
use Rattle.units.proofs.UnitLaws.{identifier_length}
use Rattle.pages.proofs.StepLaws.{xored_steps}
use Rattle.pages.proofs.effects.flipped_identifier.Goals as goal

pub copy_from_slice-requires : goal.copy_from_slice-requires
copy_from_slice-requires c =
    rw c.identifier_of.ensures (omega (arith, identifier_length c.args.keys.now c.told-keys))

pub returns : goal.returns
returns c = xored_steps c.args.keys.now _ c.told-keys (c.copy_from_slice.ensures.after ∙ c.identifier_of.ensures)
