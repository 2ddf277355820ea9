pub mod CallingLaws
pub mod DropLaws
pub mod FeedLaws
pub mod HeldLaws
mod LeavingLaws
mod OwingLaws
