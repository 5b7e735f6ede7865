pub mod Refusals
pub mod Holding
pub mod Assembling
pub mod Turns
