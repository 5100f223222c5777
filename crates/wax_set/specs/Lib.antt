pub mod Conflicts
pub mod Patterns
pub mod Sets
pub mod Walks
pub mod inner
