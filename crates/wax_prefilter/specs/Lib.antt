pub mod Below
pub mod Compiled
pub mod Facts
pub mod Known
pub mod Literals
pub mod Within
pub mod inner
