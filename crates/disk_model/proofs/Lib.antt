pub mod Chosen
mod Examples
pub mod Kept
pub mod Pieces
