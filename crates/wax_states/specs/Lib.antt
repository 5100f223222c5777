pub mod Alike
pub mod Indexed
pub mod Reached
pub mod States
pub mod inner
