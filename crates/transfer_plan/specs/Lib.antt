pub mod Kept
pub mod Laws
pub mod Layouts
pub mod Passing
pub mod TransferPlan
