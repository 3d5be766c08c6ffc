-- laws of the definitions of specs/
pub mod RoundLaws
pub mod UnitLaws
