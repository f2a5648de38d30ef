mod LikeFacts
mod MarkFacts
pub mod TruthFacts
