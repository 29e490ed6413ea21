pub mod Cutting
mod Steps
mod Words
mod Rows
mod Columns
mod Spelling
pub mod Verdict
pub mod Going
pub mod Certainty
mod Leads
mod GivenRows
mod GivenColumns
mod Decoded
mod Outcomes
pub mod Naming
