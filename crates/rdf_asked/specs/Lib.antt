pub mod Sorts
pub mod Elements
pub mod Listed
pub mod Asking
