pub mod Tables
pub mod Refusals
pub mod FaultPlaces
pub mod OrderLaws
pub mod Ways
pub mod Lengths
