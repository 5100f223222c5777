pub mod Finding
pub mod Heads
