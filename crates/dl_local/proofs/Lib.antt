pub mod ByNumbers
pub mod CountedLaws
pub mod OwnLaws
pub mod PartLaws
