pub mod KeyLaws
pub mod LockLaws
