pub mod Counts
pub mod Lines
pub mod Written
pub mod inner
