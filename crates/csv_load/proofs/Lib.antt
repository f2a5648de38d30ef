mod FirstRefusals
mod LeftFacts
mod MachineFacts
mod NumberFacts
mod PlaceFacts
mod RowFacts
mod ValueFacts
