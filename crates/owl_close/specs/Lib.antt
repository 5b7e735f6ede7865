pub mod Imports
pub mod Refusals
pub mod Searches
