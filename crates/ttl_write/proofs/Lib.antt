mod KnownIris
pub mod LineLaws
pub mod ReadBackLaws
pub mod RowLaws
mod Spelled
pub mod StepLaws
pub mod StopLaws
pub mod TermLaws
pub mod WorkedCases
