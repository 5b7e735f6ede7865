pub mod Assembled
pub mod Filling
