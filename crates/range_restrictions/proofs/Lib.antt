pub mod Gathering
pub mod Lacking
pub mod NumberedRanges
pub mod Spreading
pub mod Stating
pub mod WorkedCases
