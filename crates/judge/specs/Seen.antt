-- What a command at a unit sees of the unit table: all that its answer, its reply and the new records can depend on. docs/RULES.md, 7.1.
use Rattle.std.specs.Prelude.{List, ℕ}
use Rattle.units.specs.declared.UnitState.{UnitState}
use Rattle.units.specs.Unit.{unit_state, unit_at, key_set_of}

-- the unit's number and the state of its record, its record, and its key set
pub record Seen : Type 0 where
  pub unit : ℕ
  pub state : UnitState
  pub own : List ℕ
  pub keys : List ℕ

abbrev pub seen : List ℕ → ℕ → Seen
seen units u = record { unit = u; state = unit_state units u; own = unit_at u units; keys = key_set_of units u }
