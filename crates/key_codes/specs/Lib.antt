pub mod Codes
pub mod Columns
pub mod Firsts
pub mod Hashes
pub mod Keys
pub mod Placement
