mod Words
mod PageTable
pub mod PageLaws
pub mod RunLaws
pub mod DocumentLaws
