pub mod Bytes
pub mod Letters
pub mod Parts
pub mod Rows
pub mod Splits
pub mod Trials
pub mod Ways
