pub mod Sums
pub mod Counts
pub mod Orders
pub mod Fills
pub mod Busy
pub mod Rows
pub mod TwoUnits
