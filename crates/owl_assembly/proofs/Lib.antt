pub mod Weighing
pub mod Filling
