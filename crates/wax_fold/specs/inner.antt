pub mod BranchFolded
pub mod OpenBranches
pub mod WalkSteps
pub mod Opens
pub mod OpenTokens
