pub mod Telling
pub mod UnsaidLaws
pub mod WorkedRefusals
