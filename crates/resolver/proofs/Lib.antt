pub mod Answered
pub mod Places
pub mod Room
