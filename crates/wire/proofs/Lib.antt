-- laws of the definitions of specs/
pub mod NumberLaws
pub mod PatchLaws
pub mod SameLaws
pub mod ZeroLaws
