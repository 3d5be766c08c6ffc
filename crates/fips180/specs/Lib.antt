-- What the crate's contracts cite: Sha1, Running, Begun and Twenty hold the meanings, and proofs/ laws of them.
pub mod Sha1
pub mod Running
pub mod Begun
pub mod Twenty
