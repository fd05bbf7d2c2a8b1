pub mod Limits
pub mod Prices
pub mod Steps
pub mod Kinds
pub mod KindLaws
pub mod Refusals
