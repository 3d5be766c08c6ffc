-- laws of the definitions of specs/
pub mod RoundLaws
pub mod SearchLaws
pub mod SlotLaws
pub mod TableLaws
