pub mod Counts
pub mod Figures
pub mod Record
