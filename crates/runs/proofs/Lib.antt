-- What follows from the calls' contracts. Files named ..Laws hold theorems that others use; the named theorems stand in the rest.
-- whole commands, and what open and close leave and shut out
pub mod WholeLaws
pub mod StepLaws
pub mod FinalLaws
pub mod WholeCalls
pub mod Local
pub mod Leaves
pub mod Named
-- sequences of calls
pub mod OneRun
pub mod Start
pub mod Sequence
pub mod Tokens
pub mod EachStep
pub mod Full
-- keys over a sequence
pub mod HistoryLaws
pub mod GoodChecked
pub mod Engineer
pub mod AfterChange
pub mod KeySets
pub mod Shared
pub mod Apart
