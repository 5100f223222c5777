pub mod Listed
pub mod Marks
pub mod Slots
