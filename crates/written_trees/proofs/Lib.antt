pub mod Decimals
pub mod Keeping
pub mod RepeatedLaws
pub mod WrittenLaws
