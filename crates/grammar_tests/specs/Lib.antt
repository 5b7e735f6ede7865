pub mod ItemsTable
pub mod Events
