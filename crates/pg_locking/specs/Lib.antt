pub mod Rooms
pub mod Held
pub mod Flags
pub mod Locking
pub mod Giving
