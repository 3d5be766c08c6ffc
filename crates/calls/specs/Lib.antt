-- The five calls: what is lent and given, build, abort and reset, a whole command, open and close; Parts holds what private contracts
-- cite. proofs/ holds laws of these. What follows from the contracts of all five stands in crate runs.
pub mod Outcome
pub mod Build
pub mod Slots
pub mod Whole
pub mod Open
pub mod Close
pub mod Parts
