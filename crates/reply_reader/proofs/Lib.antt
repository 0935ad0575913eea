mod Rows
pub mod Ends
pub mod Readings
pub mod Nexts
