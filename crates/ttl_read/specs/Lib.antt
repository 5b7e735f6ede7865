pub mod Refusals
pub mod NameTables
pub mod Keeping
pub mod Showing
pub mod Reading
