pub mod Descents
pub mod Idle
pub mod Listed
pub mod Numbers
pub mod Shared
pub mod Split
pub mod Stacks
pub mod Tidy
