pub mod Costs
pub mod Walks
pub mod Checks
