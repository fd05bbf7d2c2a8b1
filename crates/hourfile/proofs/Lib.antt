pub mod Values
pub mod StepLists
pub mod Spelling
pub mod Advancing
