-- laws of the definitions of specs/
pub mod BuildLaws
pub mod CloseLaws
pub mod OpenLaws
pub mod OutcomeLaws
pub mod SlotsLaws
pub mod WholeLaws
