pub mod Faults
pub mod LocalRules
