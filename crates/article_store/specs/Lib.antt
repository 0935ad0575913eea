pub mod Causes
pub mod Finds
pub mod Paths
pub mod Reads
pub mod Texts
