pub mod Broadcasting
pub mod Sending
pub mod Urgent
pub mod Writing
