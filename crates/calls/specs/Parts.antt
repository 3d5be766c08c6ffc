-- What the parts of open and close give that are lent one buffer alone. Private contracts cite these; no promise does.
use Rattle.std.specs.Prelude.{List, ℕ}
use Rattle.wire.specs.Bytes.{patch}
use Rattle.calls.specs.Outcome.{TableOutcome, leaves}
use Rattle.calls.specs.Whole.{Local, Whole}

-- the reply, with the written bytes at its front
abbrev pub on_reply : List ℕ → Local → TableOutcome
on_reply reply x = leaves x.answer (patch reply 0 x.written)

-- the unit table
abbrev pub on_units : Whole → TableOutcome
on_units w = leaves w.answer w.units
