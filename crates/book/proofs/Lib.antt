pub mod Settles
pub mod Only
pub mod Hours
pub mod States
pub mod Counting
