mod Blocks
pub mod Maps
pub mod Moments
pub mod Pieces
