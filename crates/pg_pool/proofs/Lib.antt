pub mod IdLaws
pub mod HistoryLaws
pub mod SectionLaws
pub mod AuditLaws
mod SeatLaws
pub mod CrossingLaws
