pub mod Requests
pub mod Items
pub mod Answers
pub mod Replies
pub mod Drains
pub mod Hearing
pub mod Calls
pub mod Sums
