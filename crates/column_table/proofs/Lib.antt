mod BitFacts
mod ColumnFacts
mod CountFacts
mod ListFacts
mod RowFacts
mod TextFacts
pub mod FieldFacts
