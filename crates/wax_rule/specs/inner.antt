pub mod Naturals
pub mod Queue
