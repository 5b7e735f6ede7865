pub mod Those
pub mod Sites
