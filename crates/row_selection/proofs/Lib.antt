mod CellFacts
mod ListFacts
pub mod SelectedFacts
