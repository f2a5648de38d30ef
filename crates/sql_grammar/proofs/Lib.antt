pub mod Sets
mod Parts
mod First
mod Compose
pub mod Choices
pub mod Same
pub mod Leads
pub mod Loops
mod Words
pub mod KindFacts
mod Placed
mod Predicates
mod Cuts
pub mod Whole
mod Outcomes
mod Readings
pub mod Formed
