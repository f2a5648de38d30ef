pub mod AnswerFacts
mod SortFacts
mod TextFacts
mod TupleFacts
mod TurnFacts
