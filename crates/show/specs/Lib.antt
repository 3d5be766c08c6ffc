-- What the crate's contracts cite: the meanings.
pub mod Parts
pub mod Texts
