pub mod Documents
pub mod OneWay
pub mod Reading
pub mod Shelves
