pub mod Handed
pub mod Pools
