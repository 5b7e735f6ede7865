pub mod Labels
pub mod FreshLabels
pub mod LabelNumbers
