-- laws of the definitions of specs/
pub mod LaidLaws
pub mod ListLaws
pub mod PlaceLaws
pub mod ReducedLaws
