pub mod Accepted
pub mod Backslash
pub mod inner
