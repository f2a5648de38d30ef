pub mod Prepared
pub mod Planned
pub mod Places
pub mod Joins
pub mod Transferred
pub mod Answered
pub mod Bounded
