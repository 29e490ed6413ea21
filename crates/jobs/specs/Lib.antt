pub mod Jobs
pub mod Sections
pub mod Steps
pub mod Readings
pub mod Texts
pub mod Runs
pub mod Leading
pub mod Answers
