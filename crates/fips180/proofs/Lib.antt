-- laws of the definitions of specs/
pub mod RunningLaws
pub mod Sha1Laws
