pub mod Buffers
pub mod Files
pub mod Groups
pub mod Reads
pub mod Spools
pub mod Texts
