pub mod Operands
pub mod Numbers
pub mod Large
pub mod Nodes
pub mod Duplicates
