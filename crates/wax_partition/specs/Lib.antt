pub mod Kept
pub mod Partition
pub mod inner
