pub mod ColumnLaws
pub mod ToldLaws
pub mod CrossingLaws
