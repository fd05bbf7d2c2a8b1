pub mod Headers
pub mod Ledger
pub mod Figures
pub mod Settled
pub mod Totals
pub mod Stages
pub mod Derived
