-- laws of the definitions of specs/
pub mod PartLaws
