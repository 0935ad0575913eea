pub mod Each
pub mod Files
pub mod Joined
pub mod Readings
pub mod Searches
