pub mod Calls
pub mod Tables
pub mod Positions
pub mod Refusals
pub mod Rules
pub mod Histories
pub mod Standings
pub mod Promises
