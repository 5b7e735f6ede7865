pub mod PieceLaws
pub mod JoinedLaws
pub mod ListedLaws
pub mod PlanLaws
pub mod BlockLaws
pub mod DocumentLaws
pub mod TableLaws
pub mod KeywordLaws
