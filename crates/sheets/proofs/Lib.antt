mod Steps
mod Fronts
pub mod ComputedFronts
pub mod Verdicts
pub mod Certainty
