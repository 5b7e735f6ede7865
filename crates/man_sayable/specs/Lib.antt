pub mod FrameKinds
pub mod Facets
pub mod Subjects
pub mod Sayable
