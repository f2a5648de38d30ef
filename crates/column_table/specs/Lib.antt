pub mod Bits
pub mod Columns
pub mod Contents
pub mod FieldText
pub mod Table
pub mod Texts
