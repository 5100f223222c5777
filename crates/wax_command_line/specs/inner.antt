pub mod OptionWords
pub mod Written
