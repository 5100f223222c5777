pub mod Numbered
pub mod inner
