pub mod Draws
pub mod Texts
