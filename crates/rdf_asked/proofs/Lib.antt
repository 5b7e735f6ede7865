pub mod FirstUntyped
pub mod KnownLists
pub mod ListedLaws
pub mod OfSort
pub mod Suited
pub mod TypedNodes
