pub mod Calls
pub mod Connected
pub mod Inside
pub mod Obeying
pub mod Sending
