mod ExistLaws
mod FormLaws
mod LineWritingLaws
mod OnceLaws
pub mod OneFormLaws
mod Parts
mod TripleLaws
mod WholeLaws
mod WithinLaws
mod WritingLaws
