pub mod StopLaws
pub mod TokenLaws
pub mod WorkedCases
