pub mod Bounds
pub mod Fractions
pub mod Quotients
pub mod Rates
pub mod Running
pub mod Sums
