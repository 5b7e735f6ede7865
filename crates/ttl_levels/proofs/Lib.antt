pub mod NamedLaws
pub mod NestableLaws
pub mod NamerLaws
pub mod NestLaws
pub mod LevelLaws
mod OrderedLaws
mod WalkLaws
mod Setting
