pub mod AxiomReading
pub mod AxiomRows
