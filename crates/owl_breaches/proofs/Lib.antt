pub mod MakingLaws
pub mod OneLaws
pub mod SiteLaws
pub mod ThoseLaws
