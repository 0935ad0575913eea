pub mod Articles
pub mod Laws
