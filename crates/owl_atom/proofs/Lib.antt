pub mod PrefixTables
pub mod PrefixBlocks
pub mod Shortening
pub mod Fronts
pub mod ByIri
pub mod LocalParts
pub mod FixedPrefixes
