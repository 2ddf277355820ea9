pub mod Keys
pub mod Locks
