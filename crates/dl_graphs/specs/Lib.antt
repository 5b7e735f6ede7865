pub mod Groups
pub mod Links
pub mod Ranges
pub mod Uses
