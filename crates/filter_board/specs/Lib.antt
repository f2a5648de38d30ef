pub mod Laid
pub mod Layout
pub mod Rule
pub mod Runs
pub mod Shares
pub mod Views
