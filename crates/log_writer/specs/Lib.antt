pub mod LineHead
pub mod LogQueue
