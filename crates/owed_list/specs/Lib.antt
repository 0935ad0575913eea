pub mod FirstRecord
pub mod Names
pub mod Summary
pub mod Texts
pub mod Wanted
