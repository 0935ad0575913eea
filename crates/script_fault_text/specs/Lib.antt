pub mod Parts
pub mod FaultText
