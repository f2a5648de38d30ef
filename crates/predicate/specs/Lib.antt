pub mod Fits
pub mod Like
pub mod Truth
