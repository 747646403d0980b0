pub mod Limits
pub mod Marks
pub mod PendingSize
pub mod Replies
pub mod Traits
