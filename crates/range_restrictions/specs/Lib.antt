pub mod Restrictions
pub mod Statements
pub mod Found
