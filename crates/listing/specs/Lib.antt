pub mod Rows
pub mod Listing
pub mod Rooms
pub mod Files
pub mod Printed
