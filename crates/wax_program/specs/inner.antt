pub mod Jumps
pub mod Leads
pub mod Names
pub mod Ranges
pub mod Slashes
pub mod Spreads
pub mod Unmarked
