mod ClearFacts
mod RangeFacts
mod TypedFacts
mod TablesFacts
pub mod BoundFacts
mod ConjunctsFacts
mod PredFacts
mod GatherFacts
mod EqualityFacts
mod ShownFacts
mod UsedFacts
mod BindingFacts
