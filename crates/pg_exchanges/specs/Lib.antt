pub mod Expecting
pub mod Answering
pub mod Keeping
