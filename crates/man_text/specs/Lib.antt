pub mod Words
pub mod Undecided
pub mod Blocks
pub mod Text
pub mod Readable
pub mod Expressions
