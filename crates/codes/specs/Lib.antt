pub mod Holdings
pub mod Codes
pub mod Fitness
pub mod Duals
pub mod DualAnswers
pub mod Writing
pub mod Dualizing
