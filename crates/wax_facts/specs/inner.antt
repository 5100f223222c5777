pub mod Bodies
pub mod Cuts
pub mod Opened
pub mod Opening
