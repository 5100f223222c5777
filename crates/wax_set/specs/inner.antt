pub mod Conflicts
pub mod Edges
