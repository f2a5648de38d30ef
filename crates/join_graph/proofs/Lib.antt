mod BestFacts
pub mod BestOf
pub mod JoinChecks
pub mod ListFacts
pub mod NeededFacts
mod NeededSteps
mod StoredFacts
pub mod SumFacts
mod TreeFacts
pub mod Unlisted
pub mod WeightFacts
pub mod WorkedRows
