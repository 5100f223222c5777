pub mod FoundLines
pub mod Searching
pub mod Showing
pub mod Spelled
