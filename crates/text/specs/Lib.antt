-- What the crate's contracts cite: the meanings.
pub mod Hex
pub mod Digits
pub mod Decimal
pub mod Words
pub mod Scan
pub mod Lists
