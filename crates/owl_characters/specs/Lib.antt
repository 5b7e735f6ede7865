pub mod Iri
pub mod Names
pub mod Subtags
pub mod Order
pub mod Utf8
pub mod Limit
pub mod Feeding
pub mod OrderLaws
