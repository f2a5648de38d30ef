pub mod FileTable
pub mod Layouts
pub mod Left
pub mod Loads
