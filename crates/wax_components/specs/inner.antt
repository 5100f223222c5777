pub mod Dots
pub mod Intervals
pub mod Profiles
pub mod Saturation
pub mod Shapes
pub mod TreeProfiles
