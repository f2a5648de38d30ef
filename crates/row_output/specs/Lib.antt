pub mod OutputText
pub mod Tuples
pub mod Turning
pub mod Writing
pub mod Heads
