pub mod Causes
pub mod Held
pub mod Seen
pub mod Whole
