pub mod Steps
pub mod Exchange
pub mod Account
pub mod Accounts
