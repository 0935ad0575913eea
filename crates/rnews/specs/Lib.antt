-- The lines before articles, and the tokens that wait for articles.
pub mod Batch
pub mod Waits
