mod ChunkFacts
mod Drawn
pub mod FirstHands
mod HandFacts
mod ListedFacts
mod MorselFacts
mod PlanFacts
