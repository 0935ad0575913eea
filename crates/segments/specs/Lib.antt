pub mod Firsts
pub mod NameLaws
pub mod Names
pub mod StopLaws
pub mod Stops
