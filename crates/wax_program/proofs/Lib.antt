pub mod Advancing
pub mod BitFlags
pub mod Deciding
pub mod Finding
pub mod Folded
pub mod Jumping
pub mod LastNames
pub mod Leading
mod Limits
pub mod Lists
pub mod Marking
pub mod Marks
pub mod Members
pub mod Opens
pub mod Others
pub mod Reading
pub mod Scalars
pub mod Settling
mod Slashes
pub mod Staying
pub mod Steps
mod Sweeping
pub mod Taking
pub mod Tested
pub mod Words
mod WithoutMarks
