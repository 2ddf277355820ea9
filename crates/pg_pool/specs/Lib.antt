pub mod PoolHistory
pub mod PoolLogs
pub mod Seats
pub mod Sections
pub mod Audits
pub mod Pools
