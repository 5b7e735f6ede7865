pub mod EscapeLaws
pub mod NameLaws
pub mod PatternWithinLaws
pub mod Places
pub mod StringLaws
pub mod TokenFormLaws
pub mod Unescaping
pub mod WorkedCases
