-- What the crate's contracts cite: Seal holds the meanings, the others laws of them.
pub mod Seal
pub mod SealLaws
pub mod BlankLaws
