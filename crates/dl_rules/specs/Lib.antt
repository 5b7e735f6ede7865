pub mod Logical
pub mod Properties
pub mod Hierarchy
pub mod Definitions
pub mod Assertions
pub mod Local
pub mod Rules
pub mod Places
