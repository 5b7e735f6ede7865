pub mod OneTriple
pub mod NormalForms
pub mod Makings
pub mod Results
pub mod Building
pub mod Staying
pub mod Tidied
