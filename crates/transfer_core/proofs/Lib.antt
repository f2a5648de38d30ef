pub mod AllowedFacts
pub mod AnswerFacts
pub mod Full
pub mod Keeps
pub mod Lists
pub mod Masks
pub mod PlainFacts
pub mod Regions
mod RoomFacts
pub mod StepFacts
pub mod Sums
mod TakingFacts
pub mod ValidFacts
mod WordFacts
