pub mod Files
pub mod LineCommands
pub mod Queried
pub mod QueryText
pub mod Refused
pub mod Streams
pub mod Walked
pub mod inner
