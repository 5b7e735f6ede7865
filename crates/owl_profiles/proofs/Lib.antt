pub mod Assembling
pub mod Judging
pub mod ProfileLaws
pub mod WorkedCases
