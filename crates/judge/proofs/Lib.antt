-- laws of the definitions of specs/
pub mod AcceptedLaws
pub mod CheckedLaws
pub mod FaultLaws
pub mod JudgementLaws
pub mod TestLaws
pub mod OrderLaws
