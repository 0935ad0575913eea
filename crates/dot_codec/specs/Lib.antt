pub mod Block
pub mod Fault
pub mod Lines
pub mod Put
pub mod Scan
pub mod Stored
pub mod TextLaws
