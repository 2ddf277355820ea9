pub mod Values
pub mod Arrays
pub mod ArrayReading
pub mod Texts
pub mod TextReading
