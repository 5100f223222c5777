pub mod Lending
pub mod Passing
pub mod Separating
