pub mod Coding
pub mod Growing
pub mod Noted
pub mod Places
pub mod Reaching
