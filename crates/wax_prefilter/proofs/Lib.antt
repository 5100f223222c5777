pub mod AnyCase
mod AsciiForms
pub mod Deciding
mod Ends
pub mod Holding
pub mod Lengths
mod Lowered
mod Marks
pub mod MeantEdges
pub mod MeantPieces
pub mod Members
pub mod Names
mod NeighborNumbers
mod Pairs
mod Within
