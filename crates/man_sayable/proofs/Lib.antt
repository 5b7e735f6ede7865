pub mod FacetLaws
mod Found
pub mod FrameKindLaws
mod FrameRows
mod InsideSearch
pub mod SayableLaws
mod SubjectRows
pub mod WorkedCases
