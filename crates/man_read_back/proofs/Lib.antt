mod Steps
mod Reading
mod Stops
mod Said
mod Words
mod Atoms
mod Pieces
mod Operands
mod Expressions
mod Notes
mod Bodies
mod Sections
mod Items
mod Heads
pub mod TableLaws
mod Prefixes
mod Places
mod Forgetting
mod EventSteps
pub mod ReadsBackLaws
pub mod OntologyBackLaws
