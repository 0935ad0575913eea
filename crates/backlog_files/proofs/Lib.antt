mod Reach
mod Takes
