pub mod BoolFacts
pub mod FilterFacts
pub mod ListFacts
pub mod MemberFacts
pub mod NameFacts
pub mod NumberFacts
pub mod OrderFacts
pub mod RangeFacts
