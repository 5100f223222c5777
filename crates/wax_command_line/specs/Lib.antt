pub mod Candidates
pub mod Commands
pub mod WalkArguments
pub mod Wanted
pub mod inner
