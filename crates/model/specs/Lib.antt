-- What the crate's contracts cite, by subject. proofs/ holds the laws of each.
pub mod Among
-- answers
pub mod Paper
pub mod Answers
pub mod Refusal
-- commands
pub mod Protocol
pub mod Rows
pub mod Codes
pub mod Totals
-- IN page 0013h
pub mod Controlled
pub mod Reason
