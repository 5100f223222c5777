pub mod Cells
pub mod Listings
pub mod Replaced
pub mod Slots
pub mod Unmarked
