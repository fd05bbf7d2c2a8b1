pub mod Lines
pub mod Filed
pub mod Showing
pub mod Unique
pub mod Exactly
pub mod Never
