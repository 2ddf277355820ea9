pub mod ExpectingLaws
pub mod AcceptedLaws
pub mod KindLaws
pub mod WidthLaws
pub mod KeptLaws
