-- The judgement: a command, its descriptor, the faults, the key and the check, what is seen of the unit table, the order of the tests,
-- and what a capability proves; Order holds only how the code goes through them. proofs/ holds laws of these.
pub mod Command
pub mod Descriptor
pub mod Faults
pub mod Keys
pub mod Seen
pub mod Judgement
pub mod Checked
pub mod Order
