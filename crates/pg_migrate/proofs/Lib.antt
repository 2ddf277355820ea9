pub mod CrcLaws
pub mod QuoteLaws
