pub mod Dialects
pub mod Cutters
