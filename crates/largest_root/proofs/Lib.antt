mod BestFacts
mod ChainFacts
mod ExchangeFacts
pub mod GreatestFacts
pub mod GreedyChecks
mod GrowthFacts
pub mod HeaviestFacts
pub mod JoinFacts
pub mod ListedFacts
pub mod OneList
pub mod SomeList
mod SomeTree
mod TreeFacts
pub mod WorkedRows
