-- The header of an article.
pub mod Header
