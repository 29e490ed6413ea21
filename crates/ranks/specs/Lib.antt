pub mod Ranks
pub mod Reduction
pub mod RowSteps
pub mod Distance
