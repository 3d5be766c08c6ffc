-- What Merkle-Damgård hashes with blocks of 64 bytes share. Padding, Chain and Parts hold the meanings, and proofs/ laws of them.
pub mod Padding
pub mod Chain
pub mod Parts
