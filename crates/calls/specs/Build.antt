-- The call build (document 01, "What a call gets and gives"; 02, K4): its answer and the unit table that it leaves, for any input.
-- docs/RULES.md, 2.5.
use Rattle.std.specs.Prelude.{Bool, not, List, ℕ, ◌+◌, ◌-◌, ◌*◌, eqb, leb, length}
use Rattle.choice.specs.Choice.{both, either, pick}
use Rattle.wire.specs.Bytes.{patch}
use Rattle.model.specs.declared.Answer.TheVariants.{Good, H1, H5}
use Rattle.units.specs.Unit.{keeps_keys}
use Rattle.units.specs.Fields.{used_record, built}
use Rattle.calls.specs.Outcome.{TableOutcome, leaves}

-- may the record of unit u have k in its keeper field? Zero for own keys; or one more than a keeper's number, which is not above 7, not the
-- unit's own, and that of a record that is sound, used and with zero there
unfoldable pub right_keeper : List ℕ → ℕ → ℕ → Bool
right_keeper units u k = either (eqb k 0) (both (leb k 8) (both (not (eqb k (u + 1))) (keeps_keys units (k - 1))))

-- H1 for a table that is not 4,096 bytes long, then H5 for a unit above 7, a method above 1 or a keeper that may not be, else A0 with
-- count 0; the record that stood there is replaced, sound or not
unfoldable pub build_out : List ℕ → ℕ → ℕ → ℕ → List ℕ → List ℕ → List ℕ → ℕ → TableOutcome
build_out units u m t id auth gen k =
    pick (eqb (length units) 4096)
    (pick (both (leb u 7) (both (leb m 1) (right_keeper units u k)))
    (leaves (Good 0) (patch units (u * 512) (used_record (built u m t id auth gen k))))
    (leaves H5 units))
    (leaves H1 units)
