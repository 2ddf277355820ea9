pub mod Flags
pub mod Describing
