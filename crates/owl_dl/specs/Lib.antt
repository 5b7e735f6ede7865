pub mod Listing
pub mod Facts
