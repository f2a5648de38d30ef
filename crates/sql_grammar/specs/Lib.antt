pub mod Kinds
pub mod Words
pub mod Places
pub mod Grammar
pub mod Meaning
pub mod Sentence
pub mod Reading
pub mod Formed
