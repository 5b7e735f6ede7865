pub mod Reasons
pub mod Unsaid
