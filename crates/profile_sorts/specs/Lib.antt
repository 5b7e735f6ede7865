pub mod LeafTests
pub mod Productions
pub mod Sorts
pub mod Sets
pub mod Rows
