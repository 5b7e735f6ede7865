pub mod Adding
pub mod ImportsLaws
pub mod Lacking
pub mod Places
pub mod ReachingLaws
pub mod Refusing
pub mod UnreachedLaws
pub mod WorkedCases
