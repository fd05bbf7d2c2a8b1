pub mod Parts
pub mod Advance
pub mod Takes
pub mod Rounds
pub mod Ended
pub mod Records
