pub mod Filters
mod Folders
pub mod GlobWalks
pub mod Globs
pub mod GoingAlong
pub mod IgnoreLines
pub mod Kept
pub mod LeastWalks
pub mod Lemmas
pub mod Parts
pub mod Excluding
