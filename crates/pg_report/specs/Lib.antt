pub mod Bytes
pub mod Errors
pub mod Steps
pub mod Report
pub mod Summary
pub mod Options
