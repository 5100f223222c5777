pub mod Cost
pub mod Dfa
pub mod Numbers
pub mod Verdict
pub mod inner
