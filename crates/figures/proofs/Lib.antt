pub mod Reaching
pub mod Small
pub mod Unreached
pub mod Answering
pub mod Recovering
pub mod Reached
pub mod Hinting
pub mod Fitting
