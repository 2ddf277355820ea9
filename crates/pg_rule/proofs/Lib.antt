pub mod CacheLaws
pub mod RowLaws
pub mod OrderLaws
pub mod CrossingLaws
