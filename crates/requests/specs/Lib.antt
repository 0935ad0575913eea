pub mod Answers
pub mod Fields
pub mod Names
pub mod Numbers
pub mod Requests
pub mod Taken
pub mod Words
