pub mod Questions
pub mod Law
pub mod Counts
pub mod Hours
pub mod Taken
pub mod States
pub mod Runs
