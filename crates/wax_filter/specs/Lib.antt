pub mod Leaving
pub mod Separating
pub mod Transposing
pub mod Feeding
