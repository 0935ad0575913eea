mod Articles
mod Files
mod Sets
