pub mod Ends
pub mod FirstLetters
pub mod Forms
pub mod Prefers
pub mod Spans
pub mod inner
