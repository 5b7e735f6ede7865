pub mod Asking
pub mod CommandsLaws
pub mod Sizes
pub mod SourceLaws
