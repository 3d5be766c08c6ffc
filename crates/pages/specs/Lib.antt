-- What the crate's contracts cite: In, Out, Front and Effects hold the meanings, and proofs/ laws of them.
pub mod In
pub mod Out
pub mod Front
pub mod Effects
pub mod Parameters
