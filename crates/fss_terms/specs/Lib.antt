pub mod Terms
pub mod Spelling
pub mod Functional
