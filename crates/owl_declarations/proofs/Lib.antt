pub mod DeclaringLaws
pub mod DocumentLaws
