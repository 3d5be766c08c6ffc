-- What the crate's contracts cite: Hmac and Mac hold the meanings, and proofs/ laws of them over any hash.
pub mod Hmac
pub mod Mac
