pub mod MemShelf
pub mod MemSink
pub mod Outside
