pub mod Cuts
pub mod Sifting
pub mod Counting
pub mod Runs
pub mod Same
pub mod Tabs
pub mod Feeds
mod Skips
