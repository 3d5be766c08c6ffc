-- Nothing is left where the room is used up.
use mathlib.Core.Path.{◌∙◌, sym}
use native.Mathlib.Omega.{arith}
use borrow.Author.Tests.{le-leb}
use Rattle.wire.proofs.ZeroLaws.{zeros_none}
use Rattle.slots.proofs.zero_past.Goals as goal

pub returns-then-n-room : goal.returns-then-n-room
returns-then-n-room c = le-leb _ _ c.if-n-room.true ∙ sym (zeros_none _ _ _ (omega arith))
