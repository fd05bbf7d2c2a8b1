pub mod Reference
pub mod Fractions
pub mod Shares
pub mod Payments
pub mod Support
