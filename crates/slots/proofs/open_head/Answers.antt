-- Four numbers of two bytes.
use Rattle.wire.specs.Bytes.{bytes_of}
use Rattle.slots.specs.Slot.{open_head}
use Rattle.slots.proofs.open_head.Goals as goal

pub returns : goal.returns
unfolding open_head bytes_of
returns c = rw (c.bytes_of-t.ensures, c.bytes_of-c.ensures, c.bytes_of-u.ensures)
