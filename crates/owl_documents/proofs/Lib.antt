pub mod Defects
pub mod Following
pub mod Graphs
pub mod OneWay
pub mod Refusing
pub mod Suffixes
pub mod Taking
