pub mod Adding
pub mod Ending
pub mod Going
pub mod Leaving
pub mod QueryLines
