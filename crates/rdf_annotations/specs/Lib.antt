pub mod Annotations
pub mod Noters
pub mod Held
