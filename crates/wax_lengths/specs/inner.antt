pub mod Finding
pub mod Letters
pub mod Names
