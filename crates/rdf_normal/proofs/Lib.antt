mod WorkedCases
pub mod AgainLaws
pub mod Bare
pub mod Copying
pub mod DeclaredLaws
pub mod Extending
pub mod Filling
pub mod Looping
pub mod NeedlessLaws
pub mod NormalFormLaws
pub mod Searched
pub mod SettleTrees
pub mod ShapedLaws
pub mod TidiedLaws
pub mod TidyTrees
pub mod Unchanged
