-- What the crate's contracts cite: Words holds the meanings, BitLaws laws of them.
pub mod Words
pub mod BitLaws
