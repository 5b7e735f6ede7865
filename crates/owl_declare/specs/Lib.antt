pub mod Needed
pub mod NeedOrder
pub mod Finding
