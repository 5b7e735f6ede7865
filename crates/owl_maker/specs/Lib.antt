pub mod Constructs
pub mod Makings
pub mod Steps
pub mod Kept
