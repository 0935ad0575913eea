pub mod Digits
mod Rows
pub mod Texts
