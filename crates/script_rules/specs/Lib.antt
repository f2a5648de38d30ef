pub mod Scope
pub mod Conjuncts
pub mod Violations
