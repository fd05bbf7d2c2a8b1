pub mod Sales
pub mod Lent
