pub mod Splittings
pub mod Holdings
pub mod Least
pub mod Shown
pub mod Outcomes
pub mod Taking
pub mod Reasons
