pub mod Adjacent
pub mod ArrangedLaws
pub mod AscendingLaws
pub mod EachOnceLaws
pub mod FilterLaws
pub mod LentLaws
