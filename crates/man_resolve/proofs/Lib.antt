pub mod KnowingLaws
mod BuildingLaws
mod PartLaws
mod GroupLaws
mod ItemLaws
mod MakingLaws
mod LimitLaws
mod AxiomLaws
mod DocumentLaws
pub mod OneWayLaws
mod FittingLaws
