pub mod Outlines
pub mod Headers
pub mod Sorts
pub mod Reserved
pub mod Notes
pub mod Reach
pub mod Statements
