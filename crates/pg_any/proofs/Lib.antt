pub mod AnyLaws
pub mod RowLaws
