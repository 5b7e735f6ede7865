pub mod Characters
pub mod Vocabulary
pub mod Literals
pub mod LiteralLaws
pub mod Datatypes
pub mod Tables
