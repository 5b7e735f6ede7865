pub mod ArenaLaws
pub mod Counting
pub mod Growing
pub mod KidLaws
pub mod StoreLaws
