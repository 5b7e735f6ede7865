pub mod Forms
pub mod NestedText
pub mod Renaming
