mod BracketRows
pub mod ReadingLaws
pub mod ReadLaws
pub mod BackLaws
pub mod FormLaws
pub mod NumberLaws
pub mod RenameLaws
mod SizeLaws
