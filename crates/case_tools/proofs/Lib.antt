pub mod DialLaws
