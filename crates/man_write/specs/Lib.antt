pub mod Parts
pub mod Plans
