pub mod Raws
pub mod Documents
pub mod Opened
pub mod Listed
