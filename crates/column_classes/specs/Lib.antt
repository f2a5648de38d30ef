pub mod Labels
pub mod Variables
