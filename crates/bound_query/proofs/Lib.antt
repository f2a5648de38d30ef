pub mod WidthFacts
pub mod RelationTables
