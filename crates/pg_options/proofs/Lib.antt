pub mod EscapingLaws
pub mod NumberLaws
pub mod SwitchLaws
pub mod UrlTextLaws
pub mod WritingLaws
