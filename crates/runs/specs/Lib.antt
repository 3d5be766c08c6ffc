-- What the theorems of proofs/ are said in: a run of calls, the ledger, what each call answers by it, the key history, the tables that a
-- store starts with, and the paper's examples on the edges.
pub mod Run
pub mod Ledger
pub mod Expected
pub mod History
pub mod Fresh
pub mod Edges
