pub mod Apart
pub mod ArenaLaws
pub mod Groups
pub mod Keyed
pub mod Least
pub mod Taking
pub mod Within
