pub mod Text
pub mod Formed
