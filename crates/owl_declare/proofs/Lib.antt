pub mod FindingLaws
pub mod FoundLaws
pub mod NeedLaws
pub mod DeclaringLaws
