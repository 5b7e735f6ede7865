pub mod Refusals
pub mod Forms
pub mod NameTables
pub mod Showing
pub mod Reading
