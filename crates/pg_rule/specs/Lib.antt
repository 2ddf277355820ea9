pub mod Caches
pub mod Rules
pub mod Rows
