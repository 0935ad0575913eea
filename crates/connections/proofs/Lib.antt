pub mod Articles
pub mod Calls
pub mod Kept
pub mod Places
pub mod Sources
pub mod Texts
