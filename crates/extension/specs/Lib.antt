-- The extension list of the port card: Extension holds the meanings, Laid a list by its descriptors, and proofs/ laws.
pub mod Extension
pub mod Places
pub mod Laid
