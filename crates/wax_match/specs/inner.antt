pub mod Code
pub mod Ends
pub mod LeadCode
pub mod Left
pub mod LeftCost
pub mod Limits
