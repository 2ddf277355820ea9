pub mod Crc32
pub mod Clocks
pub mod Quoting
pub mod Texts
pub mod Orders
