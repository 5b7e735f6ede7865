pub mod Growing
pub mod Renumbering
