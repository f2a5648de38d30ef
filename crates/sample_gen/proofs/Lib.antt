mod DrawFacts
mod NameFacts
mod RowFacts
