pub mod Cycles
pub mod Ranks
pub mod Reach
