pub mod Nested
pub mod NestTables
