-- What the C face's contracts cite: Packed holds the meanings, and Unpacked how a packed answer is taken apart.
pub mod Packed
pub mod Unpacked
