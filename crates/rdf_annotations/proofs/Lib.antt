mod Ahead
mod Naming
mod Numbering
mod Passing
mod Placing
mod Reifying
mod Saying
mod Setting
pub mod AnnotationLaws
