pub mod Greedy
pub mod Steps
