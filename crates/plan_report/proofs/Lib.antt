mod ColumnFacts
mod TextFacts
