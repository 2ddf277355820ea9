pub mod Learning
pub mod Naming
pub mod Telling
pub mod Texts
pub mod Lookups
pub mod Parts
