pub mod Kinds
pub mod Columns
pub mod Values
pub mod Rows
