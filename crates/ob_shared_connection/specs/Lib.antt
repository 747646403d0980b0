pub mod Calls
pub mod Ruled
pub mod Sending
pub mod Steps
pub mod Values
