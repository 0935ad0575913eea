mod Counts
mod InOrder
mod OneEach
mod Stations
mod TapeErrors
pub mod Parts
