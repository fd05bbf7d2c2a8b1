pub mod Rows
pub mod Progress
pub mod Outcome
pub mod Holds
pub mod Calls
pub mod Reached
pub mod Read
