pub mod Limits
pub mod Lists
pub mod Names
pub mod Orders
pub mod Values
