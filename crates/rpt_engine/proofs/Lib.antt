mod AcceptedFacts
mod SequenceFacts
mod PlanFacts
mod OnePlan
mod EachFacts
mod JoinedFacts
pub mod BoundedFacts
mod AnswerRowFacts
mod KeyFacts
mod TransferFacts
mod OverflowFacts
mod AnswerFacts
