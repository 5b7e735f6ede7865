pub mod Terms
pub mod Graphs
pub mod BySubject
pub mod ByObject
