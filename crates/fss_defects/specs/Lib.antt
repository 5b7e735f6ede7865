pub mod Faults
pub mod Rules
pub mod FirstDefects
pub mod StartLaws
