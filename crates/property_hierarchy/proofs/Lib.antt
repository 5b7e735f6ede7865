pub mod Chaining
pub mod Compositing
pub mod Listing
pub mod Numbering
pub mod Placing
pub mod Reaching
pub mod Stepping
