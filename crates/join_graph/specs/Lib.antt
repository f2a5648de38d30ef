pub mod JoinList
pub mod SafeSet
pub mod Shared
pub mod Weights
