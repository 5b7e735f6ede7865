pub mod Imposed
pub mod Marking
pub mod Spreads
