pub mod Walks
pub mod NoteWalks
pub mod AxiomWalks
pub mod BareOrder
pub mod HeaderWalks
