-- What the crate's contracts cite: Unit and Fields hold the meanings, and proofs/ laws of them.
pub mod Unit
pub mod Fields
