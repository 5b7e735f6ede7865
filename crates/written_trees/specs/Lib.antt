pub mod Atoms
pub mod Written
