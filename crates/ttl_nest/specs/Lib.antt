pub mod NestedForm
pub mod Sources
