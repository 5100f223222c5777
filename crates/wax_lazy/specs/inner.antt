pub mod Cached
pub mod Rows
pub mod Table
