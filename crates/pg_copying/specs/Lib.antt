pub mod Aborts
pub mod Copies
pub mod Feeds
pub mod PoolCopies
