pub mod ByNameLaws
pub mod Documents
pub mod Taken
