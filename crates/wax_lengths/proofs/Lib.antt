pub mod Beginnings
pub mod FormLengths
pub mod Lists
pub mod Picking
pub mod Runs
