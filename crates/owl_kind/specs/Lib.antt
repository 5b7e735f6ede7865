pub mod Kinds
pub mod Marks
pub mod Order
