pub mod DeclaringLaws
pub mod FormLaws
pub mod FormingLaws
pub mod HeadLaws
pub mod SubjectRows
