pub mod Objections
pub mod SayableLaws
pub mod Searching
pub mod WorkedCases
