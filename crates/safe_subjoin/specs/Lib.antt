pub mod SafeOrder
