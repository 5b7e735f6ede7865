pub mod Rules
pub mod Profiles
pub mod Listing
pub mod Facts
pub mod Lacking
