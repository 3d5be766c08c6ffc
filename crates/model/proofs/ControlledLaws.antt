-- The Controlled Commands page has 31 rows, each before the next, and 186 bytes.
use Rattle.std.specs.Prelude.{◌≡◌, refl, Bool, true, List, [], ◌∷◌, length}
use Rattle.choice.specs.Choice.{both}
use Rattle.model.specs.Rows.{Row, rows}
use Rattle.model.specs.Controlled.{precedes, ascending, controlled}

-- does each row come before the next?
abbrev pub in_order : List Row → Bool
in_order [] = true
in_order (r ∷ []) = true
in_order (r ∷ s ∷ ss) = both (precedes r s) (in_order (s ∷ ss))

pub ascending_count : length ascending ≡ 31
unfolding ascending rows
ascending_count = refl

pub ascending_order : in_order ascending ≡ true
unfolding ascending rows
ascending_order = refl

pub controlled_length : length controlled ≡ 186
unfolding controlled ascending rows
controlled_length = refl
