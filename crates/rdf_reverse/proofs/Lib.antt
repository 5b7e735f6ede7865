mod Assembling
pub mod ClashLaws
mod Finding
mod GuessingLaws
mod Limiting
mod Tagging
pub mod DeclaringLaws
pub mod GuessLaws
pub mod HeightLaws
pub mod KeptLaws
pub mod ReverseLaws
pub mod SumLaws
pub mod WithinLaws
