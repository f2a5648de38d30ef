mod ClassFacts
mod Existence
mod LabelFacts
mod OrderedLists
mod PairFacts
pub mod PlaceFacts
mod SetFacts
pub mod Unique
