pub mod Lines
pub mod OptionWords
