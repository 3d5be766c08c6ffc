-- How the code keeps what a list carries: by the place in the command where the 78 bytes begin. Private contracts cite it; no promise does.
use Rattle.std.specs.Prelude.{List, ℕ, Option, None, Some, Result, Ok, Err}
use Rattle.wire.specs.Bytes.{part}
use Rattle.extension.specs.declared.Wrong.{Wrong}
use Rattle.extension.specs.Extension.{Carried, nothing, body, wrong}

abbrev pub carried_at : List ℕ → Result (Option ℕ) Wrong → Carried
carried_at c (Ok None) = nothing
carried_at c (Ok (Some i)) = body (part i 78 c)
carried_at c (Err e) = wrong
