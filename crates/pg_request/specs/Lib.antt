pub mod Queries
pub mod Asked
pub mod Texts
