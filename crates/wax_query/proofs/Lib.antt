pub mod Below
pub mod Ends
