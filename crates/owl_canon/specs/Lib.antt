pub mod Bytes
pub mod Limits
pub mod Sinks
pub mod Inputs
pub mod Readable
