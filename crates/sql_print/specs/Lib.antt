pub mod Pieces
pub mod Printed
pub mod Puts
pub mod Writes
pub mod Unplaced
