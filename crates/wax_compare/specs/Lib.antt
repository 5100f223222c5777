pub mod Comparison
pub mod Cuts
pub mod Limit
pub mod Selected
pub mod Texts
pub mod inner
