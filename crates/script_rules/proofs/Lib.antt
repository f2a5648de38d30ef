pub mod ScopeFacts
pub mod ViolationFacts
pub mod TypeFacts
pub mod CondFacts
mod NamedFacts
pub mod ConjunctFacts
pub mod LimitFacts
mod RefusalFacts
