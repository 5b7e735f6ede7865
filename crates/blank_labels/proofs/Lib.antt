pub mod Digits
pub mod FarDigits
pub mod FreshLabelLaws
pub mod FreshTexts
pub mod LabelLaws
pub mod Prefixes
pub mod TakenNumbers
pub mod WorkedCases
