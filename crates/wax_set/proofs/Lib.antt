pub mod Conflicts
pub mod Edges
pub mod Matchers
pub mod Numbers
pub mod Patterns
pub mod Walks
