pub mod Accounts
pub mod Errors
pub mod Nowhere
pub mod OpenFiles
pub mod Ordered
pub mod Pauses
pub mod Sources
pub mod Tapes
