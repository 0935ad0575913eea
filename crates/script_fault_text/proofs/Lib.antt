pub mod Adding
pub mod Escapes
