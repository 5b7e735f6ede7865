mod Finding
pub mod PartLaws
pub mod SearchLaws
pub mod UnsaidLaws
pub mod WalkLaws
