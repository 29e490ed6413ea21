pub mod Faults
pub mod Sections
pub mod Sheets
pub mod Steps
pub mod Readings
