pub mod Fits
pub mod Keeps
pub mod Kept
pub mod Lines
pub mod Names
pub mod Texts
