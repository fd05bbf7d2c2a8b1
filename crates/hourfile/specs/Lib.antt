pub mod Words
pub mod Faults
pub mod Calls
pub mod Format
pub mod Reading
