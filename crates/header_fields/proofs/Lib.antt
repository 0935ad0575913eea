pub mod Bodies
pub mod Ids
