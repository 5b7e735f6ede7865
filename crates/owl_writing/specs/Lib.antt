pub mod Abbreviations
pub mod Terms
pub mod Tables
pub mod Limits
