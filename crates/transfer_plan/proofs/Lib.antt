mod Earlier
pub mod EdgeFacts
mod Filtered
pub mod KeptRows
pub mod LastFacts
mod Numbered
mod Numbers
pub mod PassFacts
pub mod Placed
mod Sample
mod Serves
mod Valid
mod Written
