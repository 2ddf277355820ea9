pub mod CrossingLaws
pub mod PushLaws
pub mod TakeLaws
pub mod RowLaws
pub mod ReadLaws
pub mod UniqueLaws
pub mod CauseLaws
