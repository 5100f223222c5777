pub mod Texts
pub mod Shared
