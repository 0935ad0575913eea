pub mod Keys
pub mod Pieces
