-- What the crate's contracts cite: Slot holds the meanings, and proofs/ laws of them.
pub mod Slot
