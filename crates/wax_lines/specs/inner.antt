pub mod Matching
pub mod Progress
pub mod Sifted
