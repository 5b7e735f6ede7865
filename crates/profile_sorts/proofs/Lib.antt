pub mod FormLaws
pub mod MemoLaws
pub mod RowLaws
pub mod SetLaws
