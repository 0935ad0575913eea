pub mod Digits
pub mod Rising
mod Rows
