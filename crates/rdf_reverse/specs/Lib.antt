pub mod Reverse
pub mod Guesses
pub mod Faults
pub mod Clear
pub mod Limits
pub mod Heights
