pub mod GraphTrees
pub mod Forms
pub mod Holding
pub mod BareAxioms
