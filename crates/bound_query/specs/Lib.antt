pub mod Query
pub mod Answer
