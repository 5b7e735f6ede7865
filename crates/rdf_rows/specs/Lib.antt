pub mod Carrying
pub mod Roles
pub mod Chosen
pub mod Fits
pub mod Sites
pub mod Cardinalities
