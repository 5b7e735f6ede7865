pub mod AddingLaws
pub mod AllAxioms
pub mod ClosureLaws
pub mod Marking
pub mod PooledLaws
pub mod TellingLaws
