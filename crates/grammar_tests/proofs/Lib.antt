pub mod Feeding
pub mod ItemsPage
pub mod WorkedCases
