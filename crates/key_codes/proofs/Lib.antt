pub mod CodeFacts
mod ColumnFacts
mod FirstFacts
mod HashFacts
pub mod KeyFacts
mod PairFacts
mod TypeFacts
