pub mod Family
pub mod Json
pub mod Live
pub mod Metrics
pub mod Pieces
pub mod Prefixes
pub mod Report
