pub mod Counts
pub mod Faults
pub mod Forms
pub mod Nexts
pub mod Offsets
pub mod Parts
pub mod Puts
mod Rows
pub mod Runs
pub mod Stops
