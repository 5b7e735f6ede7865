mod Ordered
pub mod Clashes
pub mod Declarations
pub mod Found
pub mod OrderLaws
