pub mod LookUpQueue
pub mod LatestAnswer
