pub mod Places
pub mod PlaceLaws
pub mod UnderLaws
pub mod Annotations
pub mod Stated
pub mod Renamed
