pub mod Answers
pub mod Outcome
pub mod Refusals
pub mod Summary
pub mod Unsaid
pub mod VerdictLines
pub mod Verdicts
pub mod Trial
