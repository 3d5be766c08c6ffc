-- laws of the definitions of specs/
pub mod BitLaws
pub mod CommuteLaws
pub mod CopyLaws
pub mod EffectLaws
pub mod FieldLaws
pub mod FrontLaws
pub mod InLaws
pub mod OutLaws
pub mod RecordLaws
pub mod StepLaws
