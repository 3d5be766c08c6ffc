-- The table is the page's rows: both sides compute to the same 186 bytes.
use mathlib.Core.Path.{refl}
use Rattle.model.specs.Rows.{rows}
use Rattle.model.specs.Controlled.{ascending, controlled}
use Rattle.model.proofs.controlled.controlled_rows.Goals as goal

pub returns : goal.returns
unfolding controlled ascending rows
returns c = refl
