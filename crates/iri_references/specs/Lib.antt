pub mod References
pub mod DotSegments
pub mod DotSegmentRules
pub mod Resolution
pub mod Views
pub mod Bases
