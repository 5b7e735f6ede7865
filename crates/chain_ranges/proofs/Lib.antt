pub mod BitLaws
pub mod ImposedLaws
pub mod MarkingLaws
pub mod SpreadLaws
pub mod TurnedLaws
