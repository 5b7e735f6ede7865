pub mod CycleLaws
pub mod Ranking
pub mod Reaching
