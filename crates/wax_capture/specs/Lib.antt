pub mod Captures
pub mod Matched
pub mod Pieces
pub mod inner
