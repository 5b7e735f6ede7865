mod Early
mod Lists
mod Reporting
mod Streams
mod Taking
mod Tokens
pub mod AlikeLaws
pub mod ComputingLaws
pub mod EventLaws
pub mod FedLaws
pub mod NoDefectLaws
pub mod OneDefectLaws
pub mod SameStepsLaws
