pub mod Finding
pub mod Reporting
pub mod Working
