mod Answered
pub mod BytesRuns
mod Found
mod LowerCase
mod Marks
pub mod Standing
mod Steps
mod Texts
mod TokenLaws
mod WellFormed
mod WordNames
