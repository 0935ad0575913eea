pub mod Keys
pub mod Waits
