pub mod DocumentLaws
pub mod LabelLaws
pub mod PageLaws
pub mod PageTable
pub mod Refusals
pub mod RunLaws
pub mod Words
pub mod WorkedCases
