pub mod Sites
pub mod Steps
pub mod Reach
pub mod Candidates
pub mod Preparation
