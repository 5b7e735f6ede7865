pub mod ThinnedLaws
