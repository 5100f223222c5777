pub mod Empty
pub mod Excluding
pub mod Names
pub mod Sets
pub mod Sources
