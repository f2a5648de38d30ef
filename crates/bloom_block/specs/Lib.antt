pub mod Hashes
pub mod Bloom
pub mod Laws
