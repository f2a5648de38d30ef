pub mod OneList
mod OrderFacts
pub mod PrefixFacts
mod SetFacts
mod SomeList
mod WorkedRows
