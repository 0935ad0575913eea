pub mod Counts
pub mod Drops
pub mod Opens
pub mod Judging
pub mod Payloads
pub mod Pends
pub mod Places
pub mod Rotates
pub mod Stands
mod Rows
pub mod Indexed
pub mod Readings
pub mod Generations
pub mod Debts
