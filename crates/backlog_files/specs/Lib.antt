pub mod Faults
pub mod Imports
