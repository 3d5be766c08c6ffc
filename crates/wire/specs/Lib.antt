-- What the crate's contracts cite: Bytes holds the meanings, and proofs/ laws of them.
pub mod Bytes
